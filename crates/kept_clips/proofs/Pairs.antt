-- The pair of a number after pairs were held, let go or computed.
use Rattle.std.proofs.Common.{◌≡◌, ◌∙◌, ◌≤◌, ℕ, Bool, true, false, cond, ◌==◌, Option, Some, None, [], arith, ap, refl, sym, subst, unwrap_or, Result, Ok, Err}
use Rattle.std.specs.Prelude.{OnOk, OnErr, option_map, is_some}
use Rattle.std.proofs.lemmas.Bool.{eqb-true}
use Rattle.kept_clips.specs.declared.clip.Clip.{Clip}
use Rattle.std.specs.Cmp.{nat_cmp_total, unsigned_tied}
use Rattle.std.specs.FinMap.{get, insert, remove, get-insert, get-remove, get-empty, empty}
use Rattle.std.specs.Ordering.{nat_cmp, eq_by_cmp}
use Rattle.element_tree.specs.declared.container.Container.{Container}
use Rattle.element_tree.specs.declared.container.Container.TheVariants.{Element, Document}
use Rattle.clip_chain.specs.Worlds.{view_spot}
use Rattle.clip_chain.specs.Scenes.{Scene}
use Rattle.kept_clips.specs.declared.pair.Pair.{Pair}
use Rattle.kept_clips.specs.Touches.{Touched, last_touch}
use Rattle.kept_clips.specs.Held.{HeldClips, new_pair, pair_of, spots_of, spots_at, IsHeld, computed_now}
use Rattle.kept_clips.specs.Numbers.{IsNumbered, AreNumbered}
use Rattle.kept_clips.specs.Chains.{IsExactPair, IsExact}

abbrev pub no_pair : Pair
no_pair = new_pair (view_spot 0) (view_spot 0)

chosen : (b : Bool) (p : Pair) (o : Option Pair) → unwrap_or (cond b (Some p) o) no_pair ≡ cond b p (unwrap_or o no_pair)
chosen true p o = refl
chosen false p o = refl

dropped : (b : Bool) (o : Option Pair) → unwrap_or (cond b None o) no_pair ≡ cond b no_pair (unwrap_or o no_pair)
dropped true o = refl
dropped false o = refl

pub of_inserted : (it : HeldClips) (number other : ℕ) (p : Pair) → pair_of (record it { pairs = insert (it.pairs) number p }) other ≡ cond (other == number) p (pair_of it other)
of_inserted it number other p =
    ap (λ (o : Option Pair). unwrap_or o no_pair) (get-insert nat_cmp_total (it.pairs) number p other)
    ∙ chosen (eq_by_cmp nat_cmp other number) p (get (it.pairs) other)
    ∙ ap (λ b. cond b p (pair_of it other)) (unsigned_tied other number)

pub of_removed : (it : HeldClips) (number other : ℕ) → pair_of (record it { pairs = remove (it.pairs) number }) other ≡ cond (other == number) no_pair (pair_of it other)
of_removed it number other =
    ap (λ (o : Option Pair). unwrap_or o no_pair) (get-remove nat_cmp_total (it.pairs) number other)
    ∙ dropped (eq_by_cmp nat_cmp other number) (get (it.pairs) other)
    ∙ ap (λ b. cond b no_pair (pair_of it other)) (unsigned_tied other number)

-- a fact of one pair and of all others is a fact of all
one_of : (P : Pair → Type 0) (b : Bool) (p q : Pair) → P p → P q → P (cond b p q)
one_of P true p q hp hq = hp
one_of P false p q hp hq = hq

pub at_inserted : (P : Pair → Type 0) (it : HeldClips) (number : ℕ) (p : Pair) (other : ℕ) → P p → P (pair_of it other) → P (pair_of (record it { pairs = insert (it.pairs) number p }) other)
at_inserted P it number p other hp h = subst P (sym (of_inserted it number other p)) (one_of P (other == number) p (pair_of it other) hp h)

pub at_removed : (P : Pair → Type 0) (it : HeldClips) (number other : ℕ) → P no_pair → P (pair_of it other) → P (pair_of (record it { pairs = remove (it.pairs) number }) other)
at_removed P it number other hp h = subst P (sym (of_removed it number other)) (one_of P (other == number) no_pair (pair_of it other) hp h)

-- numbers of touches

pub numbered_inserted : (it : HeldClips) (number : ℕ) (p : Pair) → IsNumbered it.touches.count p.computed → AreNumbered it → AreNumbered (record it { pairs = insert (it.pairs) number p })
numbered_inserted it number p hp all = record {
  touched = all.touched;
  numbered = λ other. at_inserted (λ (q : Pair). IsNumbered it.touches.count q.computed) it number p other hp (all.numbered other);
  counted = all.counted;
}

pub numbered_removed : (it : HeldClips) (number : ℕ) → AreNumbered it → AreNumbered (record it { pairs = remove (it.pairs) number })
numbered_removed it number all = record {
  touched = all.touched;
  numbered = λ other. at_removed (λ (q : Pair). IsNumbered it.touches.count q.computed) it number other tt (all.numbered other);
  counted = all.counted;
}

-- exact clips

pub exact_inserted : (scene : Scene) (it : HeldClips) (number : ℕ) (p : Pair) (other : ℕ) → IsExactPair scene it.touches p → IsExact scene it other → IsExact scene (record it { pairs = insert (it.pairs) number p }) other
exact_inserted scene it number p other hp h = at_inserted (IsExactPair scene it.touches) it number p other hp h

pub exact_removed : (scene : Scene) (it : HeldClips) (number other : ℕ) → IsExact scene it other → IsExact scene (record it { pairs = remove (it.pairs) number }) other
exact_removed scene it number other h = at_removed (IsExactPair scene it.touches) it number other (λ between lead current. tt) h

pub exact_new : (scene : Scene) (touches : Touched) (root of : Container) → IsExactPair scene touches (new_pair root of)
exact_new scene touches root of = λ between lead current. tt

-- what holds after a call that changes or is refused

pub either : {A E B : Type 0} (result : Result A E) (P : B → Type 0) (old new changed : B) → OnOk result (new ≡ changed) → OnErr result (new ≡ old) → P changed → P old → P new
either (Ok a) P old new changed ok err hc ho = subst P (sym ok) hc
either (Err e) P old new changed ok err hc ho = subst P (sym err) ho

none_touched : (spot : Container) → last_touch (record { count = 0; nodes = []; views = [] }) spot ≤ 0
none_touched (Element node) = omega arith
none_touched (Document document) = omega arith

pub numbered_empty : AreNumbered (record { touches = record { count = 0; nodes = []; views = [] }; pairs = empty })
numbered_empty = record {
  touched = none_touched;
  numbered = λ number. subst (λ (o : Option Pair). IsNumbered 0 (unwrap_or o no_pair).computed) (sym (get-empty nat_cmp number)) tt;
  counted = omega arith;
}

-- the spots of pairs when one is computed

of_held : (o : Option Pair) → is_some o ≡ true → option_map spots_of o ≡ Some (spots_of (unwrap_or o no_pair))
of_held None held = let wrong : false ≡ true = held in absurd (let no : ⊥ = cc in no)
of_held (Some p) held = refl

same_or : (it : HeldClips) (number other : ℕ) (p : Pair) (b : Bool) → other == number ≡ b → option_map spots_of (get (it.pairs) number) ≡ Some (spots_of p) → option_map spots_of (cond b (Some p) (get (it.pairs) other)) ≡ spots_at it other
same_or it number other p true e held = sym held ∙ ap (λ n. option_map spots_of (get (it.pairs) n)) (sym (eqb-true other number e))
same_or it number other p false e held = refl

pub spots_computed : (it : HeldClips) (number other : ℕ) (clip : Clip) → IsHeld it number → spots_at (record it { pairs = insert (it.pairs) number (computed_now clip (it.touches) (pair_of it number)) }) other ≡ spots_at it other
spots_computed it number other clip held =
    let p = computed_now clip (it.touches) (pair_of it number) in
    ap (λ (o : Option Pair). option_map spots_of o)
    (get-insert nat_cmp_total (it.pairs) number p other ∙ ap (λ b. cond b (Some p) (get (it.pairs) other)) (unsigned_tied other number))
    ∙ same_or it number other p (other == number) refl (of_held (get (it.pairs) number) held)

pub exact_empty : (scene : Scene) (touches : Touched) (number : ℕ) → IsExact scene (record { touches = touches; pairs = empty }) number
exact_empty scene touches number =
    subst (IsExactPair scene touches) (sym (ap (λ (o : Option Pair). unwrap_or o no_pair) (get-empty nat_cmp number))) (exact_new scene touches (view_spot 0) (view_spot 0))
