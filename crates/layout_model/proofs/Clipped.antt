-- The nearest clipping box, from what holds a box.
use Rattle.std.proofs.Common.{◌≡◌, ◌<◌, ℕ, Bool, true, false, cond, Some, None, List, [], ◌∷◌, refl, ap, sym, ◌∙◌}
use Rattle.std.specs.Prelude.{find}
use Rattle.layout_model.specs.Clips.{clips}
use Rattle.layout_model.specs.Nodes.{Node, depth_of, is_among, is_in_path, HeldByElement, holder, element_of, holders_of, IsShallow}
use Rattle.layout_model.specs.Reach.{clipped_by}
use Rattle.layout_model.proofs.Ancestors.{found_among}
use Rattle.layout_model.proofs.Holders.{holders_of_held, holders_of_unheld, holders_above, holders_less}

pub clipped_unheld : (at : ℕ → Node) (n : ℕ) → element_of (holder at n) ≡ None → clipped_by at n ≡ None
unfolding clipped_by
clipped_unheld at n none = ap (find (λ h. clips (at h))) (holders_of_unheld at n none)

found_does : (test : ℕ → Bool) (list : List ℕ) (a : ℕ) → find test list ≡ Some a → test a ≡ true
found_does test [] a is = absurd cc
found_does test (n ∷ more) a is = by_test (test n) refl (found_does test more a) is
  where
    by_test : (b : Bool) → test n ≡ b → (find test more ≡ Some a → test a ≡ true) → cond b (Some n) (find test more) ≡ Some a → test a ≡ true
    by_test true does on same = let e : n ≡ a = cc in ap test (sym e) ∙ does
    by_test false does on found = on found

module _ (at : ℕ → Node) (shallow : IsShallow at) where
  pub clipped_held : (n h : ℕ) → holder at n ≡ HeldByElement h → clipped_by at n ≡ cond (clips (at h)) (Some h) (clipped_by at h)
  unfolding clipped_by
  clipped_held n h is = ap (find (λ h. clips (at h))) (holders_of_held at shallow n h is)

  pub clipped_among : (n d : ℕ) → clipped_by at d ≡ Some n → is_among n (holders_of at d) ≡ true
  unfolding clipped_by
  clipped_among n d is = found_among (λ h. clips (at h)) (holders_of at d) n is

  -- what clips a box is an ancestor, and clips
  pub clipped_above : (n d : ℕ) → clipped_by at d ≡ Some n → is_in_path at n d ≡ true
  clipped_above n d is = holders_above at shallow n d (clipped_among n d is)

  pub clipped_less : (n d : ℕ) → clipped_by at d ≡ Some n → depth_of at n < depth_of at d
  clipped_less n d is = holders_less at shallow n d (clipped_among n d is)

  pub clipped_clips : (n d : ℕ) → clipped_by at d ≡ Some n → clips (at n) ≡ true
  unfolding clipped_by
  clipped_clips n d is = found_does (λ h. clips (at h)) (holders_of at d) n is
