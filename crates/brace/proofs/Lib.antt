-- The laws of BRACE of points.
pub mod PointsLaws
