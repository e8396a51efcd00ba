pub mod Entered
pub mod Finished
pub mod Inside
pub mod Listed
pub mod Numbers
pub mod Walking
