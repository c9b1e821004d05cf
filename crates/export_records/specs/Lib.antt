pub mod ReadsColumns
