-- The name of a handler of a script.
use Rattle.std.proofs.Common.{◌≡◌, ◌∙◌, ℕ, zero, suc, ◌<◌, length, List, [], ◌∷◌, Option, Some, None, refl, ap, sym, arith}
use Rattle.std.specs.Borrow.{Bor}
use Rattle.std.specs.Option.{IsSome}
use Rattle.std.specs.Prelude.{slice_get, option_map, unwrap_or}
use Rattle.script_model.specs.Scripts.{NamedBlock}
use Rattle.script_syntax.specs.Seen.{handler_of}
use Rattle.script_syntax.specs.declared.commands.Handler.{Handler}
use Rattle.page_model.specs.Callbacks.{handler_text}

handler_below : (script : List NamedBlock) (number : ℕ) → number < length script → None ≡ slice_get script number → ⊥
handler_below [] number within is = omega arith
handler_below (handler ∷ script) zero within is = cc
handler_below (handler ∷ script) (suc number) within is = handler_below script number (omega (arith, within)) is

-- there is one below their count
pub handler_there : (script : List NamedBlock) (number : ℕ) (found : Option (Bor Handler)) → option_map (λ handler. handler_of handler.now) found ≡ slice_get script number
    → number < length script → IsSome found
handler_there script number None is within = absurd (handler_below script number within is)
handler_there script number (Some handler) is within = refl

pub handler_named : (script : List NamedBlock) (number : ℕ) (found : Option (Bor Handler)) (handler : Bor Handler) → option_map (λ handler. handler_of handler.now) found ≡ slice_get script number
    → found ≡ Some handler → handler.now.name ≡ handler_text script number
handler_named script number found handler is some =
    ap (λ (at : Option NamedBlock). unwrap_or (option_map (λ (it : NamedBlock). it.name) at) [])
    (sym (ap (λ (it : Option (Bor Handler)). option_map (λ handler. handler_of handler.now) it) some) ∙ is)
