pub mod Calling
pub mod Going
pub mod Judged
pub mod Lending
pub mod Making
pub mod Moving
