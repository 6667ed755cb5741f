-- Media query lists as values (Media Queries 4).
use Rattle.std.specs.Prelude.{ℕ, Bool, List}

pub data Comparison : Type 0 where
  Exactly : Comparison
  AtLeast : Comparison
  AtMost : Comparison

-- one test of a viewport; lengths are in units
pub data Feature : Type 0 where
  WidthFeature : (compared : Comparison) (units : ℕ) → Feature
  HeightFeature : (compared : Comparison) (units : ℕ) → Feature
  OrientationFeature : (portrait : Bool) → Feature

pub data MediaType : Type 0 where
  AllMedia : MediaType
  ScreenMedia : MediaType
  PrintMedia : MediaType

-- what comes before a media type
pub data Prefix : Type 0 where
  NoPrefix : Prefix
  NotPrefix : Prefix
  OnlyPrefix : Prefix

pub data MediaQuery : Type 0 where
  Typed : (before : Prefix) (medium : MediaType) (features : List Feature) → MediaQuery
  NotFeature : (feature : Feature) → MediaQuery
  AllFeatures : (first : Feature) (others : List Feature) → MediaQuery
  AnyFeatures : (first : Feature) (second : Feature) (others : List Feature) → MediaQuery
