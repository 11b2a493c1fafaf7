pub mod Bytes
pub mod Grammar
pub mod Scan
pub mod Within
pub mod Answer
pub mod Laws
