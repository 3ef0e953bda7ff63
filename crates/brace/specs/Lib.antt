-- What encoding and decoding answer, for units and for points.
pub mod Answer
pub mod Points
