use Rattle.std.proofs.Common.{◌≡◌, ◌++◌, ◌∷◌, [], ℕ, List, OnOk, w64, sym, subst}
use Rattle.std.proofs.lemmas.Int.{to_z-of_z}
use Rattle.std.specs.Prelude.{codes, unsigned_abs}
use Rattle.media_queries.specs.LengthText.{length_text}
use Rattle.script_syntax.specs.Seen.{operand_of, test_of}
use Rattle.script_syntax.specs.declared.operands.Test.{Test}
use Rattle.script_text.specs.Parts.{all_words}
use Rattle.script_text.specs.WordText.{operand_text}
use Rattle.script_text.specs.Phrases.{test_head, test_parts}
use Rattle.script_print.specs.Spaced.{spaced}
use Rattle.script_print.proofs.conditions.push_test.Goals as goal

-- the words of a test that is known
known : {A : Type 0} (result : A) (On : A → Type 0 → Type 0) (old new : List ℕ) (now given : Test) → now ≡ given
    → On result (new ≡ old ++ spaced (test_head (test_of given) ∷ all_words (test_parts (test_of given)))) → On result (new ≡ old ++ spaced (test_head (test_of now) ∷ all_words (test_parts (test_of now))))
known result On old new now given is pushed =
    subst (λ it. On result (new ≡ old ++ spaced (test_head (test_of it) ∷ all_words (test_parts (test_of it))))) (sym is) pushed

pub returns-in-Wider : goal.returns-in-Wider
returns-in-Wider c =
    known c.push_phrase.result OnOk _ _ _ _ c.in-Wider.is
    (subst (λ units. OnOk c.push_phrase.result (c.push_phrase.new.into.items ≡ c.args.into.now.items ++ spaced (codes "wider" ∷ operand_text (operand_of c.in-Wider.node) ∷ length_text (unsigned_abs units) ∷ [])))
    (to_z-of_z w64 c.in-Wider.px.0 search) c.push_phrase.ensures)

pub returns-in-Taller : goal.returns-in-Taller
returns-in-Taller c =
    known c.push_phrase-in-Taller.result OnOk _ _ _ _ c.in-Taller.is
    (subst (λ units. OnOk c.push_phrase-in-Taller.result (c.push_phrase-in-Taller.new.into.items ≡ c.args.into.now.items ++ spaced (codes "taller" ∷ operand_text (operand_of c.in-Taller.node) ∷ length_text (unsigned_abs units) ∷ [])))
    (to_z-of_z w64 c.in-Taller.px.0 search) c.push_phrase-in-Taller.ensures)

pub returns-in-Matches : goal.returns-in-Matches
returns-in-Matches c = known c.push_phrase-in-Matches.result OnOk _ _ _ _ c.in-Matches.is c.push_phrase-in-Matches.ensures

pub returns-in-Attached : goal.returns-in-Attached
returns-in-Attached c = known c.push_phrase-in-Attached.result OnOk _ _ _ _ c.in-Attached.is c.push_phrase-in-Attached.ensures
