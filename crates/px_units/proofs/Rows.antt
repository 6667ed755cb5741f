-- The texts computed.
use Rattle.std.proofs.Common.{◌≡◌, pos, negsuc, refl}
use Rattle.std.specs.Prelude.{codes}
use Rattle.px_units.specs.Texts.{pixel_text}

pub one_unit : pixel_text (pos 1) ≡ codes "0.015625"
unfolding pixel_text
one_unit = refl

pub half : pixel_text (negsuc 31) ≡ codes "-0.5"
unfolding pixel_text
half = refl

pub whole : pixel_text (pos 51200) ≡ codes "800"
unfolding pixel_text
whole = refl

pub nothing : pixel_text (pos 0) ≡ codes "0"
unfolding pixel_text
nothing = refl

pub largest : pixel_text (pos 9223372036854775807) ≡ codes "144115188075855871.984375"
unfolding pixel_text
largest = refl
