pub mod ByteDigits
pub mod HexDigits
pub mod Written
