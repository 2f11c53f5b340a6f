pub mod AlignedRows
pub mod RowFields
pub mod CutLines
pub mod HexDigits
pub mod HexText
pub mod PlainFields
