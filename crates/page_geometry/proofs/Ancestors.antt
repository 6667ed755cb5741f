-- The elements that hold a box, one in the other, as a walk from holder to holder takes them.
use Rattle.std.proofs.Common.{◌≡◌, ℕ, Bool, true, false, cond, None, refl, ap, sym, ◌∙◌, nat_eq}
use Rattle.std.specs.Prelude.{◌||◌}
use Rattle.layout_model.specs.Nodes.{Node, Holder, HeldByElement, HeldByPage, HeldByScreen, holder, element_of, held, is_in_path, IsShallow}
use Rattle.layout_model.proofs.Ancestors.{in_self, in_child, in_top}
use Rattle.layout_model.proofs.Holders.{holder_of_top, held_shallow}
use Rattle.page_model.specs.World.{Tree}
use Rattle.page_model.specs.Lookups.{element_at}
use Rattle.page_model.specs.Documents.{nodes_of}
use Rattle.page_model.specs.Findings.{is_on_chain}

-- whether an element is among what holds a box, from a holder on
abbrev pub is_from : (ℕ → Node) → ℕ → Holder → Bool
is_from at a (HeldByElement element) = is_in_path (held at) a element
is_from at a HeldByPage = false
is_from at a HeldByScreen = false

or_false : (b : Bool) → (b || false) ≡ b
or_false true = refl
or_false false = refl

module _ (at : ℕ → Node) (shallow : IsShallow at) (a n : ℕ) (differs : nat_eq a n ≡ false) where
  pub unheld : element_of (holder at n) ≡ None → is_in_path (held at) a n ≡ false
  unheld none = in_top (held at) (held_shallow at shallow) a n none ∙ or_false (nat_eq a n) ∙ differs

  from_by : (by : Holder) → holder at n ≡ by → is_from at a by ≡ is_in_path (held at) a n
  from_by (HeldByElement h) is =
      sym (in_child (held at) (held_shallow at shallow) a n h (ap element_of is) ∙ ap (λ b. b || is_in_path (held at) a h) differs)
  from_by HeldByPage is = sym (unheld (ap element_of is))
  from_by HeldByScreen is = sym (unheld (ap element_of is))

  -- from what holds another element's box on
  pub from_holder : (by : Holder) → by ≡ holder at n → is_from at a by ≡ is_in_path (held at) a n
  from_holder by is = from_by by (sym is)

pub from_itself : (at : ℕ → Node) (a element : ℕ) (by : Holder) → by ≡ HeldByElement element → element ≡ a → true ≡ is_from at a by
from_itself at a element by is same =
    sym (ap (is_from at a) is ∙ ap (λ e. is_in_path (held at) a e) same ∙ in_self (held at) a)

module _ (tree : Tree) (a n : ℕ) where
  pub on_chain : (result : Bool) → nat_eq a n ≡ false → result ≡ is_in_path (held (nodes_of tree)) a n → result ≡ is_on_chain tree a n
  on_chain result differs is = is ∙ sym (ap (λ b. cond b false (is_in_path (held (nodes_of tree)) a n)) differs)

  pub not_itself : nat_eq a n ≡ true → false ≡ is_on_chain tree a n
  not_itself same = sym (ap (λ b. cond b false (is_in_path (held (nodes_of tree)) a n)) same)

  -- nothing holds what has no parent
  pub none_above : IsShallow (nodes_of tree) → (element_at tree n).parent ≡ None → false ≡ is_on_chain tree a n
  none_above shallow top = by_number (nat_eq a n) refl
    where
      by_number : (same : Bool) → nat_eq a n ≡ same → false ≡ is_on_chain tree a n
      by_number true same = not_itself same
      by_number false differs =
          on_chain false differs (sym (unheld (nodes_of tree) shallow a n differs (ap element_of (holder_of_top (nodes_of tree) n top))))
