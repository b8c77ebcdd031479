-- lemmas of contests
pub mod ReasonsOfPlaces
