-- The forms computed at texts.
use Rattle.std.proofs.Common.{◌≡◌, true, negsuc, Some, None, refl}
use Rattle.std.specs.Prelude.{codes}
use Rattle.word_model.specs.Numbers.{length_of, signed_of, signed_percent_of, number_of, whole_of, is_decimal_with}

pub half : length_of (codes "0.5px") ≡ Some 32
unfolding length_of
half = refl

pub cut : length_of (codes "0.99px") ≡ Some 63
unfolding length_of
cut = refl

pub largest : length_of (codes "1000000px") ≡ Some 64000000
unfolding length_of
largest = refl

pub above : length_of (codes "1000000.01px") ≡ None
unfolding length_of
above = refl

pub minus : signed_of (codes "-0.99px") ≡ Some (negsuc 62)
unfolding signed_of
minus = refl

pub above_percent : signed_percent_of (codes "-10000.01%") ≡ None
unfolding signed_percent_of
above_percent = refl

pub quarter : number_of (codes "-0.25") ≡ Some (negsuc 2499)
unfolding number_of
quarter = refl

pub zeros : whole_of (codes "00") ≡ None
unfolding whole_of
zeros = refl

pub out_of_range : is_decimal_with (codes "px") (codes "-12345678.999px") ≡ true
unfolding is_decimal_with
out_of_range = refl
