-- The causes of BRACE's refusals, BRACE as a codec of units and of points, the draft's own procedure,
-- the choice of a style, and known labels.
pub mod Causes
pub mod Codec
pub mod Procedure
pub mod Choice
pub mod KnownLabels
pub mod Published
