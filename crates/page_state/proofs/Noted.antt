-- The sizes that are noted of documents' viewports.
use Rattle.std.proofs.Common.{◌≡◌, ℕ, zero, suc, ℤ, pos, negsuc, ◌≤ℤ◌, int_eq, unsigned_abs, ◌==◌, Bool, true, false, not, ◌&&◌, cond, List, [], ◌∷◌, map, Option, Some, None, option_map, unwrap_or, refl, ap, subst, ◌∙◌, arith, tests}
use Rattle.std.specs.List.{AllByRecursion}
use Rattle.std.specs.Option.{ForSome}
use Rattle.std.proofs.lemmas.Int.{ints}
use Rattle.px_units.specs.declared.Size.{Size}
use Rattle.page_model.specs.Lookups.{entry_or, put_at}
use Rattle.page_model.specs.Viewports.{differs_from}
use Rattle.page_boxes.specs.Pages.{seen_size}
use Rattle.page_tree.specs.Items.{IsNatural}

-- seen as the definitions have them

pub noted_seen : (noted : List (Option Size)) (document : ℕ) → option_map seen_size (entry_or None noted document) ≡ entry_or None (map (option_map seen_size) noted) document
noted_seen [] document = refl
noted_seen (first ∷ others) zero = refl
noted_seen (first ∷ others) (suc document) = noted_seen others document

-- each is a length on both axes

abbrev AreNatural : List (Option Size) → Type 0
AreNatural noted = AllByRecursion (λ (it : Option Size). ForSome it IsNatural) noted

pub natural_at : (noted : List (Option Size)) (document : ℕ) (size : Size) → AreNatural noted → entry_or None noted document ≡ Some size → IsNatural size
natural_at [] document size all is = cc
natural_at (first ∷ others) zero size all is = all.0 size is
natural_at (first ∷ others) (suc document) size all is = natural_at others document size all.1 is

pub natural_put : (document : ℕ) (size : Option Size) (noted : List (Option Size)) → ForSome size IsNatural → AreNatural noted → AreNatural (put_at None document size noted)
natural_put zero size [] is all = (is, tt)
natural_put zero size (first ∷ others) is all = (is, all.1)
natural_put (suc document) size [] is all = (λ some none. cc, natural_put document size [] is tt)
natural_put (suc document) size (first ∷ others) is all = (all.0, natural_put document size others is all.1)

pub natural_some : (size : Size) → IsNatural size → ForSome (Some size) IsNatural
natural_some size is other same = subst IsNatural (ap (λ (it : Option Size). unwrap_or it size) same) is

-- whether two sizes differ

same_units : (a b : ℤ) → pos 0 ≤ℤ a → pos 0 ≤ℤ b → int_eq a b ≡ (unsigned_abs a == unsigned_abs b)
same_units (pos m) (pos n) low high = grind (arith, tests, ints)
same_units (negsuc m) b low high = absurd (omega (arith, ints))
same_units (pos m) (negsuc n) low high = absurd (omega (arith, ints))

both : (a b c d : Bool) → a ≡ c → b ≡ d → not (a && b) ≡ not (cond c d false)
both a b true d one other = ap (λ (it : Bool). not (it && b)) one ∙ ap not other
both a b false d one other = ap (λ (it : Bool). not (it && b)) one

pub sizes_differ : (last size : Size) → IsNatural last → IsNatural size → not (int_eq last.width size.width && int_eq last.height size.height) ≡ differs_from (seen_size size) (Some (seen_size last))
sizes_differ last size natural now =
    both (int_eq last.width size.width) (int_eq last.height size.height) _ _ (same_units last.width size.width natural.0.0 now.0.0) (same_units last.height size.height natural.1.0 now.1.0)
