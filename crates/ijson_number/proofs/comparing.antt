pub mod MagnitudeOrder
pub mod NumberOrder
