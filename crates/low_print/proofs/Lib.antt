pub mod AsciiCode
