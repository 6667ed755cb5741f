-- Spots by their numbers.
use Rattle.std.proofs.Common.{◌≡◌, ◌∙◌, ℕ, ◌≢◌, Bool, true, false, ◌==◌, ap, refl, sym, inl, inr}
use Rattle.std.specs.Prelude.{◌⊎◌}
use Rattle.std.proofs.lemmas.Bool.{false≢true}
use Rattle.std.proofs.lemmas.Bool.Decides.{Decides-eqb}
use Rattle.element_tree.specs.declared.container.Container.{Container}
use Rattle.element_tree.specs.declared.container.Container.TheVariants.{Element, Document}

abbrev number_in : Container → ℕ
number_in (Element node) = node.0
number_in (Document document) = document.0

pub other_node : (a b : ℕ) → (¬ Element (record { 0 = a }) ≡ Element (record { 0 = b })) → a ≢ b
other_node a b apart = λ e. apart (ap (λ n. Element (record { 0 = n })) e)

pub other_view : (a b : ℕ) → (¬ Document (record { 0 = a }) ≡ Document (record { 0 = b })) → a ≢ b
other_view a b apart = λ e. apart (ap (λ n. Document (record { 0 = n })) e)

-- two spots are the same or not

numbers_apart : (a b : ℕ) → (a ≡ b) ⊎ (a ≢ b)
numbers_apart a b = by_test (a == b) refl
  where
    by_test : (t : Bool) → (a == b) ≡ t → (a ≡ b) ⊎ (a ≢ b)
    by_test true e = inl ((Decides-eqb a b).0 e)
    by_test false e = inr (λ same. false≢true (sym e ∙ (Decides-eqb a b).1 same))

pub same_or_apart : (one other : Container) → (other ≡ one) ⊎ (¬ other ≡ one)
same_or_apart (Element a) (Element b) = elim (numbers_apart b.0 a.0) [
  | inl e ↦ inl (ap (λ n. Element (record { 0 = n })) e)
  | inr apart ↦ inr (λ e. apart (let same : Element b ≡ Element a = e in ap number_in same))
]
same_or_apart (Element a) (Document d) = inr (λ e. let wrong : Document d ≡ Element a = e in cc)
same_or_apart (Document d) (Element b) = inr (λ e. let wrong : Element b ≡ Document d = e in cc)
same_or_apart (Document c) (Document d) = elim (numbers_apart d.0 c.0) [
  | inl e ↦ inl (ap (λ n. Document (record { 0 = n })) e)
  | inr apart ↦ inr (λ e. apart (let same : Document d ≡ Document c = e in ap number_in same))
]
