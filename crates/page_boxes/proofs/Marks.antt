-- Documents that are marked.
use Rattle.std.proofs.Common.{◌≡◌, ◌≢◌, ◌<◌, ℕ, zero, suc, Bool, true, false, List, [], ◌∷◌, Option, None, length, replicate, slice_set, refl, ap, arith}
use Rattle.element_tree.specs.declared.node.NodeId.{NodeId}
use Rattle.page_model.specs.Lookups.{entry_or}
use Rattle.page_boxes.specs.LaidOut.{is_marked}

pub none_marked : (count document : ℕ) → is_marked (replicate count false) document ≡ false
none_marked zero document = refl
none_marked (suc count) zero = refl
none_marked (suc count) (suc document) = none_marked count document

pub marked_here : (marks : List Bool) (document : ℕ) → document < length marks → is_marked (slice_set marks document true) document ≡ true
marked_here [] document inside = absurd (omega arith)
marked_here (mark ∷ marks) zero inside = refl
marked_here (mark ∷ marks) (suc document) inside = marked_here marks document (omega arith)

pub marked_else : (marks : List Bool) (document other : ℕ) → other ≢ document → is_marked (slice_set marks document true) other ≡ is_marked marks other
marked_else [] document other apart = refl
marked_else (mark ∷ marks) zero zero apart = absurd (apart refl)
marked_else (mark ∷ marks) zero (suc other) apart = refl
marked_else (mark ∷ marks) (suc document) zero apart = refl
marked_else (mark ∷ marks) (suc document) (suc other) apart = marked_else marks document other (λ same. apart (ap suc same))

pub still_marked : (marks : List Bool) (document other : ℕ) → is_marked marks other ≡ true → is_marked (slice_set marks document true) other ≡ true
still_marked [] document other is = cc
still_marked (mark ∷ marks) zero zero is = refl
still_marked (mark ∷ marks) zero (suc other) is = is
still_marked (mark ∷ marks) (suc document) zero is = is
still_marked (mark ∷ marks) (suc document) (suc other) is = still_marked marks document other is

-- what is noted for a document
pub noted_here : (roots : List (Option NodeId)) (document : ℕ) (root : Option NodeId) → document < length roots → entry_or None (slice_set roots document root) document ≡ root
noted_here [] document root inside = absurd (omega arith)
noted_here (own ∷ roots) zero root inside = refl
noted_here (own ∷ roots) (suc document) root inside = noted_here roots document root (omega arith)

pub noted_else : (roots : List (Option NodeId)) (document other : ℕ) (root : Option NodeId) → other ≢ document
    → entry_or None (slice_set roots document root) other ≡ entry_or None roots other
noted_else [] document other root apart = refl
noted_else (own ∷ roots) zero zero root apart = absurd (apart refl)
noted_else (own ∷ roots) zero (suc other) root apart = refl
noted_else (own ∷ roots) (suc document) zero root apart = refl
noted_else (own ∷ roots) (suc document) (suc other) root apart = noted_else roots document other root (λ same. apart (ap suc same))
