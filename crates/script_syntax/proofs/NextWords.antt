-- The next word of a line.
use Rattle.std.proofs.Common.{◌≡◌, ◌∙◌, refl, sym, ap, Bool, List, [], ◌∷◌}
use Rattle.std.specs.Prelude.{Ok, Err, codes}
use Rattle.script_model.specs.Lexing.{Word, Row}
use Rattle.script_model.specs.Forms.{next_in, next_of}
use Rattle.script_model.specs.Statements.{negation_in}
use Rattle.script_syntax.specs.Lines.{taken_in}

pub next_missing : (row : Row) → row.left ≡ [] → next_of row ≡ Err row.after
unfolding next_of next_in
next_missing row none = ap (λ (words : List Word). next_in words row) none

pub next_taken : (old new : Row) (word : Word) → old.left ≡ word ∷ new.left → new ≡ record old { left = new.left } → next_of old ≡ Ok (word, new)
unfolding next_of next_in
next_taken old new word first others =
    ap (λ (words : List Word). next_in words old) first ∙ ap (λ (row : Row). Ok (word, row)) (sym others)

negation_is : (words : List Word) (row : Row) → negation_in words row ≡ taken_in (codes "not") words row
unfolding negation_in
negation_is [] row = refl
negation_is (w ∷ ws) row = refl

pub negation_taken : (row new : Row) (taken : Bool) → taken_in (codes "not") row.left row ≡ (taken, new) → negation_in row.left row ≡ (taken, new)
negation_taken row new taken is = negation_is row.left row ∙ is
