pub mod Games
pub mod GameLaws
