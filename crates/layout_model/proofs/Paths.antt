-- The path of a child is the child, then the path of its parent: no path is cut in trees of at most `levels` levels.
use Rattle.std.proofs.Common.{◌≡◌, ◌≤◌, ◌+◌, ℕ, zero, suc, Option, Some, None, [], ◌∷◌, length, refl, ap, sym, ◌∙◌, arith}
use Rattle.layout_model.specs.Nodes.{Node, levels, path_above, path_up, path_of, ancestors_of, depth_of}

above_less : (high : ℕ) (at : ℕ → Node) (found : Option ℕ) → ((n : ℕ) → length (path_up (suc high) at n) ≤ suc high → path_up (suc high) at n ≡ path_up high at n) → length (path_above (path_up (suc high) at) found) ≤ suc high → path_above (path_up (suc high) at) found ≡ path_above (path_up high at) found
above_less high at None all short = refl
above_less high at (Some p) all short = all p short

above_none : (at : ℕ → Node) (found : Option ℕ) → length (path_above (path_up 0 at) found) ≤ 0 → path_above (path_up 0 at) found ≡ []
unfolding path_up
above_none at None short = refl
above_none at (Some p) short = elim no [ ]
  where
    no : ⊥
    no = omega arith

pub uncut : (high : ℕ) (at : ℕ → Node) (n : ℕ) → length (path_up (suc high) at n) ≤ suc high → path_up (suc high) at n ≡ path_up high at n
unfolding path_up
uncut zero at n short = ap (λ above. n ∷ above) (above_none at ((at n).parent) (omega arith))
uncut (suc high) at n short = ap (λ above. n ∷ above) (above_less high at ((at n).parent) (uncut high at) (omega arith))

pub path_child : (at : ℕ → Node) (c p : ℕ) → (at c).parent ≡ Some p → depth_of at p ≤ levels → path_of at c ≡ c ∷ path_of at p
unfolding path_of depth_of path_up
path_child at c p is short = ap (λ found. c ∷ path_above (path_up 65535 at) found) is ∙ ap (λ above. c ∷ above) (sym (uncut 65535 at p short))

pub path_top : (at : ℕ → Node) (n : ℕ) → (at n).parent ≡ None → path_of at n ≡ n ∷ []
unfolding path_of path_up
path_top at n is = ap (λ found. n ∷ path_above (path_up 65535 at) found) is

above_more : (high : ℕ) (at : ℕ → Node) (found : Option ℕ) → ((n : ℕ) → length (path_up high at n) ≤ high → path_up (suc high) at n ≡ path_up high at n) → length (path_above (path_up high at) found) ≤ high → path_above (path_up (suc high) at) found ≡ path_above (path_up high at) found
above_more high at None all short = refl
above_more high at (Some p) all short = all p short

pub uncut_more : (high : ℕ) (at : ℕ → Node) (n : ℕ) → length (path_up high at n) ≤ high → path_up (suc high) at n ≡ path_up high at n
unfolding path_up
uncut_more zero at n short = elim no [ ]
  where
    no : ⊥
    no = omega arith
uncut_more (suc high) at n short = ap (λ above. n ∷ above) (above_more high at ((at n).parent) (uncut_more high at) (omega arith))

pub path_self : (at : ℕ → Node) (n : ℕ) → depth_of at n ≤ levels → path_of at n ≡ n ∷ ancestors_of at n
unfolding path_of depth_of path_up ancestors_of
path_self at n short = ap (λ above. n ∷ above) (sym (above_more 65535 at ((at n).parent) (uncut_more 65535 at) (omega arith)))

pub depth_child : (at : ℕ → Node) (c p : ℕ) → (at c).parent ≡ Some p → depth_of at p ≤ levels → depth_of at c ≡ depth_of at p + 1
unfolding depth_of
depth_child at c p is short = ap length (path_child at c p is short) ∙ (omega arith)

pub depth_top : (at : ℕ → Node) (n : ℕ) → (at n).parent ≡ None → depth_of at n ≡ 1
unfolding depth_of
depth_top at n is = ap length (path_top at n is)

pub ancestors_child : (at : ℕ → Node) (c p : ℕ) → (at c).parent ≡ Some p → ancestors_of at c ≡ path_of at p
unfolding ancestors_of
ancestors_child at c p is = ap (path_above (path_of at)) is

pub ancestors_top : (at : ℕ → Node) (n : ℕ) → (at n).parent ≡ None → ancestors_of at n ≡ []
unfolding ancestors_of
ancestors_top at n is = ap (path_above (path_of at)) is

pub depth_least : (at : ℕ → Node) (n : ℕ) → 1 ≤ depth_of at n
unfolding depth_of path_of path_up
depth_least at n = omega arith
