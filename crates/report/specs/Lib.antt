-- What the programs print: digits, rows of points, whole lines, and what their writers answer.
pub mod Digits
pub mod Lines
pub mod Answer
