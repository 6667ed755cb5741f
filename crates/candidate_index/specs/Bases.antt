-- Equality of bases. A basis is what a finding is computed from.
use Rattle.std.specs.Prelude.{Bool, true, false, ◌&&◌}
use Rattle.std.specs.Ordering.{int_eq}
use Rattle.px_units.specs.declared.Rect.{Rect}
use Rattle.kept_clips.specs.declared.clip.Clip.{Clip}
use Rattle.kept_clips.specs.declared.clip.Clip.TheVariants.{Whole, Cut, Nothing}
use Rattle.candidate_index.specs.declared.basis.Sight.{Sight}
use Rattle.candidate_index.specs.declared.basis.Sight.TheVariants.{Apart, NoBox, Chained}
use Rattle.candidate_index.specs.declared.basis.Basis.{Basis}

abbrev pub is_same_rect : Rect → Rect → Bool
is_same_rect r s = int_eq r.left s.left && int_eq r.top s.top && int_eq r.right s.right && int_eq r.bottom s.bottom

abbrev pub is_same_clip : Clip → Clip → Bool
is_same_clip Whole Whole = true
is_same_clip (Cut r) (Cut s) = is_same_rect r s
is_same_clip Nothing Nothing = true
is_same_clip c d = false

abbrev pub is_same_sight : Sight → Sight → Bool
is_same_sight Apart Apart = true
is_same_sight NoBox NoBox = true
is_same_sight (Chained r c) (Chained s d) = is_same_rect r s && is_same_clip c d
is_same_sight a b = false

abbrev pub is_same_basis : Basis → Basis → Bool
is_same_basis a b = is_same_rect a.limits b.limits && is_same_sight a.sight b.sight
