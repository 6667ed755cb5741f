-- Handlers by their names.
use Rattle.std.proofs.Common.{◌≡◌, ℕ, suc, ◌+◌, Bool, true, false, cond, not, nat_lt, List, [], ◌∷◌, length, Option, Some, None, option_map, refl, sym, ap, ◌∙◌, arith, tests}
use Rattle.std.specs.Prelude.{bytes_eq, position}
use Rattle.std.specs.List.{position_or_len}
use Rattle.text_io.specs.declared.kinds.ThrowKind.{ThrowKind}
use Rattle.text_io.specs.declared.kinds.ThrowKind.TheVariants.{ReferenceError}
use Rattle.script_model.specs.Syntax.{Item}
use Rattle.script_model.specs.Scripts.{NamedBlock, number_in, handler_number, handlers_in}
use Rattle.page_model.specs.Callbacks.{handler_names}
use Rattle.page_model.specs.Operands.{Handlers, handler_named, handler_given}
use Rattle.page_model.specs.Steps.{Step, Did, Threw, required, ◌>>=◌}

later-place : (k most : ℕ) → option_map (λ number. number + 1) (cond (nat_lt k most) (Some k) None) ≡ cond (nat_lt (1 + k) (suc most)) (Some (1 + k)) None
later-place k most = by (nat_lt k most) refl (nat_lt (1 + k) (suc most)) refl
  where
    by : (one : Bool) → nat_lt k most ≡ one → (other : Bool) → nat_lt (1 + k) (suc most) ≡ other → option_map (λ number. number + 1) (cond one (Some k) None) ≡ cond other (Some (1 + k)) None
    by true is true is' = ap Some (omega arith)
    by false is false is' = refl
    by true is false is' = absurd (grind (arith, tests))
    by false is true is' = absurd (grind (arith, tests))

first-place : (is : Bool) (k most : ℕ) → cond is (Some 0) (option_map (λ number. number + 1) (cond (nat_lt k most) (Some k) None)) ≡ cond (nat_lt (cond (not is) (1 + k) 0) (suc most)) (Some (cond (not is) (1 + k) 0)) None
first-place true k most =
    let below : nat_lt 0 (suc most) ≡ true = grind (arith, tests) in
    ap (λ (is : Bool). cond is (Some 0) None) (sym below)
first-place false k most = later-place k most

number_is : (handlers : List NamedBlock) (name : List ℕ) → number_in handlers name ≡ position (bytes_eq name) (handler_names handlers)
unfolding number_in
number_is [] name = refl
number_is (first ∷ others) name =
    ap (λ (rest : Option ℕ). cond (bytes_eq name first.name) (Some 0) (option_map (λ number. number + 1) rest)) (number_is others name)
    ∙ first-place (bytes_eq name first.name) (position_or_len (bytes_eq name) (handler_names others)) (length (handler_names others))

by_number : (items : List Item) (name : List ℕ) → handler_named (handler_names (handlers_in items)) name ≡ required ReferenceError (handler_number items name)
unfolding handler_number
by_number items name = ap (required ReferenceError) (sym (number_is (handlers_in items) name))

pub handler_found : (items : List Item) (name : List ℕ) (found : Option ℕ) (number : ℕ) → found ≡ handler_number items name → found ≡ Some number
    → handler_named (handler_names (handlers_in items)) name ≡ Did number
handler_found items name found number is some = by_number items name ∙ ap (required ReferenceError) (sym is ∙ some)

pub handler_missing : (items : List Item) (name : List ℕ) (found : Option ℕ) → found ≡ handler_number items name → found ≡ None
    → handler_named (handler_names (handlers_in items)) name ≡ Threw ReferenceError
handler_missing items name found is none = by_number items name ∙ ap (required ReferenceError) (sym is ∙ none)

pub given_found : (handlers : Handlers) (given : Option (List ℕ)) (name : List ℕ) → given ≡ Some name → (handler : ℕ) → handler_named handlers name ≡ Did handler
    → handler_given handlers given ≡ Did (Some handler)
unfolding ◌>>=◌
given_found handlers given name is handler found = ap (handler_given handlers) is ∙ ap (λ (step : Step ℕ). step >>= λ it. Did (Some it)) found

pub given_missing : (handlers : Handlers) (given : Option (List ℕ)) (name : List ℕ) → given ≡ Some name → (kind : ThrowKind) → handler_named handlers name ≡ Threw kind
    → handler_given handlers given ≡ Threw kind
unfolding ◌>>=◌
given_missing handlers given name is kind threw = ap (handler_given handlers) is ∙ ap (λ (step : Step ℕ). step >>= λ it. Did (Some it)) threw
