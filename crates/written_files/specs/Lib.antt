pub mod Files
pub mod WrittenLaws
