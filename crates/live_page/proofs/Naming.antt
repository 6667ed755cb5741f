-- The handlers of a page once a further script was given.
use Rattle.std.proofs.Common.{◌≡◌, ◌≤◌, ◌<◌, refl, subst, arith, ℕ, suc, List, [], ◌∷◌, length, Some, None}
use Rattle.script_model.specs.Scripts.{NamedBlock}
use Rattle.live_page.specs.Lives.{handlers_after, name_at, KeepsNames}

-- a page that keeps the names of its handlers has at least as many
pub keeps_count : (known after : List NamedBlock) → KeepsNames known after → length known ≤ length after
keeps_count [] after keeps = omega arith
keeps_count (handler ∷ known) [] keeps = absurd (let lacks : None ≡ Some (handler.name) = keeps 0 (omega arith) in cc)
keeps_count (handler ∷ known) (other ∷ after) keeps =
    let others : length known ≤ length after = keeps_count known after (λ number within. keeps (suc number) (omega (arith, within))) in omega (arith, others)

-- of a script that has handlers

pub after_some : (known given : List NamedBlock) → (length given ≡ 0 → ⊥) → handlers_after known given ≡ given
after_some known [] some = absurd (some refl)
after_some known (handler ∷ given) some = refl

pub further_more : (known given : List NamedBlock) → (length given ≡ 0 → ⊥) → KeepsNames known (handlers_after known given) → length known ≤ length given
further_more known given some keeps = keeps_count known given (subst (KeepsNames known) (after_some known given some) keeps)

-- names by their numbers

abbrev pub KeptTo : List NamedBlock → List NamedBlock → ℕ → Type 0
KeptTo known given number = (n : ℕ) → n < number → name_at given n ≡ name_at known n

pub kept_none : (known given : List NamedBlock) → KeptTo known given 0
kept_none known given = λ n less. absurd (omega (arith, less))
