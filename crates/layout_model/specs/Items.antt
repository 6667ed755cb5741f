-- What layout sees of an element: its style and its kind.
use Rattle.std.specs.Prelude.{ℕ}
use Rattle.layout_model.specs.Styles.{Style}

-- an image has a natural size, in units
pub data Kind : Type 0 where
  BlockKind : Kind
  ImageKind : (width height : ℕ) → Kind
  FrameKind : Kind

pub record Item : Type 0 where
  pub style : Style
  pub kind : Kind
