use Rattle.std.proofs.Common.{◌≡◌, ℕ, ◌+◌, ◌∙◌, ap, refl, sym, arith, length}
use Rattle.std.proofs.lemmas.Bool.{lt-ltb}
use Rattle.std.proofs.lemmas.List.Sums.{sum_by-cons}
use Rattle.std.specs.Prelude.{Bool, true, false, cond, ◌&&◌, ◌||◌, nat_lt, List, [], ◌∷◌, filter, sum_by}
use Rattle.std.specs.List.{list_any}
use Rattle.page_model.specs.World.{Observation, ResizeObserver}
use Rattle.page_model.specs.Gathering.{is_of, is_filled}
use Rattle.depth_gather.proofs.laws.something_is_active_where_it_is_counted.Goals as goal

either-more : (xs : List Observation) (n : ℕ) (others : Bool) → others ≡ nat_lt 0 n → (is_filled xs || others) ≡ nat_lt 0 (length xs + n)
either-more [] n others same = same ∙ ap (nat_lt 0) (omega arith)
either-more (x ∷ xs) n others same = sym (lt-ltb 0 (length (x ∷ xs) + n) (omega arith))

abbrev active_in : ResizeObserver → ℕ
active_in it = length (it.active)

first-counted : (is : Bool) (x : ResizeObserver) (xs : List ResizeObserver) (others : Bool) → others ≡ nat_lt 0 (sum_by active_in xs) → ((is && is_filled (x.active)) || others) ≡ nat_lt 0 (sum_by active_in (cond is (x ∷ xs) xs))
first-counted true x xs others same = either-more (x.active) (sum_by active_in xs) others same ∙ ap (nat_lt 0) (sym (sum_by-cons active_in x xs))
first-counted false x xs others same = same

any-counted : (test : ResizeObserver → Bool) (xs : List ResizeObserver) → list_any (λ (it : ResizeObserver). test it && is_filled (it.active)) xs ≡ nat_lt 0 (sum_by active_in (filter test xs))
any-counted test [] = refl
any-counted test (x ∷ xs) = first-counted (test x) x (filter test xs) (list_any (λ (it : ResizeObserver). test it && is_filled (it.active)) xs) (any-counted test xs)

pub returns : goal.returns
returns c it document = any-counted (is_of document) it.made
