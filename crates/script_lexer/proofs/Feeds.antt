-- A byte of a list, or none, and what begins there.
use Rattle.std.proofs.Common.{◌≡◌, ℕ, ◌<◌, ◌≤◌, ◌==◌, false, List, length, drop, get_or, ap}
use Rattle.std.proofs.lemmas.List.{drop_more, drop_all}
use Rattle.word_model.specs.Numbers.{begins_with}

pub feed_is : (bytes : List ℕ) (at : ℕ) → at < length bytes → begins_with 10 (drop at bytes) ≡ (get_or bytes at 0 == 10)
unfolding begins_with
feed_is bytes at within = ap (begins_with 10) (drop_more bytes at 0 within)

pub no_feed : (bytes : List ℕ) (at : ℕ) → length bytes ≤ at → begins_with 10 (drop at bytes) ≡ false
unfolding begins_with
no_feed bytes at past = ap (begins_with 10) (drop_all at bytes past)
