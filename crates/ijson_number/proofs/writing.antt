pub mod Beginnings
pub mod DigitTexts
pub mod LastDigits
pub mod RoundTrip
pub mod WordTexts
pub mod Writing
pub mod WrittenLanes
