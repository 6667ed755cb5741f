-- An element that isn't there.
use Rattle.std.proofs.Common.{◌≡◌, ℕ, zero, suc, ◌≤◌, false, nat_lt, List, [], ◌∷◌, length, Option, None, slice_get, unwrap_or, refl, ap, arith, tests}
use Rattle.layout_model.specs.Nodes.{path_above, path_up}
use Rattle.page_model.specs.World.{Element, Tree}
use Rattle.page_model.specs.Lookups.{no_element}
use Rattle.page_model.specs.Documents.{element_depth, nodes_of}

pub at_least : (n most : ℕ) → false ≡ nat_lt n most → most ≤ n
at_least n most is = grind (arith, tests)

pub past_end : {A : Type 0} (xs : List A) (n : ℕ) → length xs ≤ n → slice_get xs n ≡ None
past_end [] n past = refl
past_end (x ∷ xs) zero past = absurd (omega (arith, past))
past_end (x ∷ xs) (suc n) past = past_end xs n (omega (arith, past))

pub depth_missing : (tree : Tree) (n : ℕ) → length tree.elements ≤ n → element_depth tree n ≡ 1
unfolding element_depth
depth_missing tree n past =
    ap (λ (found : Option Element). length (n ∷ path_above (path_up 65535 (nodes_of tree)) (unwrap_or found no_element).parent)) (past_end tree.elements n past)
