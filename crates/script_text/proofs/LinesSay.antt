-- Each printed line is a line for the lexer, and says what it was printed for.
use Rattle.std.proofs.Common.{◌≡◌, refl, sym, ℕ, ◌≤◌, Bool, true, false, cond, ◌==◌, List, [], ◌∷◌, ◌++◌, Some, None, arith, subst, append-nil}
use Rattle.std.specs.Prelude.{ℤ, Option, map, bytes_eq, codes}
use Rattle.std.specs.List.{list_all, list_any}
use Rattle.std.proofs.lemmas.Bool.{and_parts}
use Rattle.word_model.specs.Names.{is_name}
use Rattle.word_model.specs.Numbers.{begins_with, decimal}
use Rattle.text_io.specs.declared.kinds.Version.{Version}
use Rattle.text_io.specs.declared.kinds.Version.TheVariants.{First, Second}
use Rattle.script_model.specs.Readers.{is_empty}
use Rattle.script_model.specs.MarginText.{parts_of}
use Rattle.script_model.specs.Lexing.{Word}
use Rattle.script_model.specs.Syntax.{Action, Test, Condition}
use Rattle.script_model.specs.Forms.{Form, NameForm, NodeForm, AimForm, HandlerForm, RootForm, LengthForm, SignedForm, PercentForm, WholeForm, EventForm, BoxForm, DimensionForm, DeclarationForm, JustForm, MarginForm, NumbersForm, QueryForm, Meant}
use Rattle.script_model.specs.Statements.{Does, Ticks, OpensEach, OpensWhen, OpensHandler, Ends, Standing}
use Rattle.script_text.specs.NumberText.{number_text}
use Rattle.script_text.specs.DeclarationText.{property_text}
use Rattle.script_text.specs.Parts.{scroll_words, part_words, all_words}
use Rattle.script_text.specs.Entries.{Entry, Values, ValuesOf, parts, parts_behind}
use Rattle.script_text.specs.Phrases.{action_at, action_phrase, action_head, action_parts, action_words, test_at, test_phrase, test_head, test_parts, condition_words}
use Rattle.script_text.specs.NumberedLines.{numbered, end_line}
use Rattle.script_text.specs.ScriptText.{line_text}
use Rattle.script_text.specs.WellFormed.{is_margin_word, IsScrollMargin, AreNumbers, IsMeant, AreMeant, IsAction}
use Rattle.script_text.proofs.WordBytes.{IsWord, not_true, as_word, numeral, name_word}
use Rattle.script_text.proofs.NumbersAgain.{percent_again, length_again, signed_again, number_again}
use Rattle.script_text.proofs.WordsAgain.{node_again, aim_again, handler_again, root_again, event_again, box_again, dimension_again}
use Rattle.script_text.proofs.DeclarationsAgain.{property_word, declaration_again}
use Rattle.script_text.proofs.PartsAgain.{words_at, Follows, follows, stand, stands}
use Rattle.script_text.proofs.StatementsAgain.{action_word, words_in, action_says, tick_says, each_says, end_says, handler_says, test_word, test_stands, when_says}
use Rattle.script_text.proofs.LineWords.{AreWords, words_append, IsLine, is_line, States, line_states}
use Rattle.script_text.proofs.QueryLine.{query_line, query_states}

margin_word : (version : Version) (text : List ℕ) → is_margin_word version text ≡ true → IsWord text
unfolding is_margin_word is_empty begins_with
margin_word version [] h = absurd cc
margin_word version (b ∷ bs) h =
    let front = and_parts _ _ h in
    let plain = and_parts _ _ front.0 in
    record { first = b; others = bs; text_is = refl; bytes = plain.0; no_comment = not_true (b == 35) plain.1 }

margin_words : (version : Version) (ts : List (List ℕ)) → list_all (is_margin_word version) ts ≡ true → AreWords ts
margin_words version [] h = tt
margin_words version (t ∷ ts) h = (margin_word version t (and_parts _ _ h).0, margin_words version ts (and_parts _ _ h).1)

scroll_good : (version : Version) (scroll : Option (List ℕ)) → IsScrollMargin version scroll → AreWords (scroll_words scroll)
scroll_good version None h = tt
scroll_good First (Some margin) h = absurd h
scroll_good Second (Some margin) h = (as_word _ refl, margin_words Second (parts_of margin) h)

number_words : (numbers : List ℤ) → AreNumbers numbers → AreWords (map number_text numbers)
number_words [] h = tt
number_words (n ∷ ns) h = ((number_again n h.0).word, number_words ns h.1)

whole_word : (number : ℕ) → number ≤ 1000000000000 → IsWord (decimal number)
whole_word number h = (numeral number [] [] (decimal number) (sym (append-nil (decimal number))) (omega arith) refl refl refl).word

part_good : (form : Form) (value : Meant form) → IsMeant form value → (rest : List Word) → Follows form rest → AreWords (part_words form value)
part_good NameForm name h rest follows = (name_word name h, tt)
part_good NodeForm operand h rest follows = ((node_again operand h).word, tt)
part_good AimForm aim h rest follows = ((aim_again aim h).word, tt)
part_good HandlerForm handler h rest follows = ((handler_again handler h).word, tt)
part_good RootForm root h rest follows = ((root_again root h).word, tt)
part_good LengthForm units h rest follows = ((length_again units h).numeral.word, tt)
part_good SignedForm units h rest follows = ((signed_again units h).word, tt)
part_good PercentForm hundredths h rest follows = ((percent_again hundredths h).numeral.word, tt)
part_good WholeForm number h rest follows = (whole_word number h, tt)
part_good EventForm event h rest follows = ((event_again event).word, tt)
part_good (BoxForm version) box h rest follows = ((box_again version box h).word, tt)
part_good DimensionForm dimension h rest follows = ((dimension_again dimension).word, tt)
part_good (DeclarationForm version) declaration h rest follows =
    let again = declaration_again version declaration h in
    (property_word version (property_text declaration) again.reader again.named, (again.again.word, tt))
part_good (JustForm word) value h rest follows = (follows, tt)
part_good (MarginForm version) margins h rest follows =
    words_append (parts_of margins.0) (scroll_words margins.1) (margin_words version (parts_of margins.0) h.0) (scroll_good version margins.1 h.1)
part_good NumbersForm numbers h rest follows = number_words numbers h
part_good QueryForm queries h rest follows = absurd follows

parts_good : (forms : List Form) (values : Values forms) → stand forms ≡ true → AreMeant (parts forms values) → AreWords (all_words (parts forms values))
parts_good [] values stands h = tt
parts_good (form ∷ forms) values stands h =
    let both = and_parts _ _ stands in
    let behind : List (List ℕ) = all_words (parts forms values.1) in
    words_append (part_words form values.0) behind (part_good form values.0 h.0 (words_at 1 behind) (follows form forms values.1 both.0 1)) (parts_good forms values.1 both.1 h.1)

phrase_good : {A : Type 0} (entry : Option (Entry A)) (values : ValuesOf entry) → stands entry ≡ true → AreMeant (parts_behind entry values) → AreWords (all_words (parts_behind entry values))
phrase_good None values stands h = absurd values
phrase_good (Some entry) values stands h = parts_good entry.forms values stands h

-- Lines.

action_words_good : (version : Version) (action : Action) → stands (action_at version (action_head version action)) ≡ true → AreMeant (action_parts version action)
    → AreWords (action_head version action ∷ all_words (action_parts version action))
action_words_good version action stands h =
    (action_word version action, phrase_good (action_at version (action_head version action)) (action_phrase version action).values stands h)

pub action_line : (version : Version) (action : Action) → AreMeant (action_parts version action) → IsLine (line_text (action_words action))
action_line version action h = by_forms (stands (action_at version (action_head version action))) refl where
  by_forms : (so : Bool) → stands (action_at version (action_head version action)) ≡ so → IsLine (line_text (action_words action))
  by_forms true e =
      subst (λ (ts : List (List ℕ)). IsLine (line_text ts)) (words_in version action)
      (is_line (action_head version action) (all_words (action_parts version action)) (action_words_good version action e h))
  by_forms false e = query_line version action e h

pub action_states : (standing : Standing) (number : ℕ) (action : Action) → IsAction standing.version action → States standing (numbered number (action_words action)) (Does action)
action_states standing number action h = by_forms (stands (action_at standing.version (action_head standing.version action))) refl where
  by_forms : (so : Bool) → stands (action_at standing.version (action_head standing.version action)) ≡ so → States standing (numbered number (action_words action)) (Does action)
  by_forms true e =
      line_states standing number (action_head Second action) (all_words (action_parts Second action)) (Does action)
      (subst AreWords (words_in standing.version action) (action_words_good standing.version action e h.operands)) (action_says standing action h.known e h.operands)
  by_forms false e = query_states standing number action h.known e h.operands

tick_words : (time : ℕ) → time ≤ 1000000000000 → AreWords (codes "tick" ∷ decimal time ∷ [])
tick_words time h = (as_word _ refl, (whole_word time h, tt))

pub tick_line : (time : ℕ) → time ≤ 1000000000000 → IsLine (line_text (codes "tick" ∷ decimal time ∷ []))
tick_line time h = is_line (codes "tick") (decimal time ∷ []) (tick_words time h)

pub tick_states : (version : Version) (names : List (List ℕ)) (number time : ℕ) → time ≤ 1000000000000
    → States (record { version = version; outside = true; names = names }) (numbered number (codes "tick" ∷ decimal time ∷ [])) (Ticks time)
tick_states version names number time h =
    line_states (record { version = version; outside = true; names = names }) number (codes "tick") (decimal time ∷ []) (Ticks time) (tick_words time h) (tick_says version names time h)

each_words : AreWords (codes "each" ∷ [])
each_words = (as_word _ refl, tt)

pub each_line : IsLine (line_text (codes "each" ∷ []))
each_line = is_line (codes "each") [] each_words

pub each_states : (standing : Standing) (number : ℕ) → States standing (numbered number (codes "each" ∷ [])) OpensEach
each_states standing number = line_states standing number (codes "each") [] OpensEach each_words (each_says standing)

end_words : AreWords (codes "end" ∷ [])
end_words = (as_word _ refl, tt)

pub last_line : IsLine (line_text (codes "end" ∷ []))
last_line = is_line (codes "end") [] end_words

pub end_states : (version : Version) (names : List (List ℕ)) (number : ℕ) → States (record { version = version; outside = false; names = names }) (end_line number) Ends
end_states version names number = line_states (record { version = version; outside = false; names = names }) number (codes "end") [] Ends end_words (end_says version names)

handler_words : (name : List ℕ) → is_name name ≡ true → AreWords (codes "handler" ∷ name ∷ [])
handler_words name h = (as_word _ refl, (name_word name h, tt))

pub handler_line : (name : List ℕ) → is_name name ≡ true → IsLine (line_text (codes "handler" ∷ name ∷ []))
handler_line name h = is_line (codes "handler") (name ∷ []) (handler_words name h)

pub handler_states : (version : Version) (names : List (List ℕ)) (number : ℕ) (name : List ℕ) → is_name name ≡ true → list_any (bytes_eq name) names ≡ false
    → States (record { version = version; outside = true; names = names }) (numbered number (codes "handler" ∷ name ∷ [])) (OpensHandler name)
handler_states version names number name h new =
    line_states (record { version = version; outside = true; names = names }) number (codes "handler") (name ∷ []) (OpensHandler name) (handler_words name h) (handler_says version names name h new)

condition_good : (negated : Bool) (words : List (List ℕ)) → AreWords words → AreWords (cond negated (codes "not" ∷ []) [] ++ words)
condition_good true words h = (as_word _ refl, h)
condition_good false words h = h

when_words : (condition : Condition) → AreMeant (test_parts condition.asks) → AreWords (codes "when" ∷ condition_words condition)
when_words condition h =
    let test : Test = condition.asks in
    let behind = phrase_good (test_at (test_head test)) (test_phrase test).values (test_stands test) h in
    (as_word _ refl, condition_good condition.negated (test_head test ∷ all_words (test_parts test)) (test_word test, behind))

pub when_line : (condition : Condition) → AreMeant (test_parts condition.asks) → IsLine (line_text (codes "when" ∷ condition_words condition))
when_line condition h = is_line (codes "when") (condition_words condition) (when_words condition h)

pub when_states : (standing : Standing) (number : ℕ) (condition : Condition) → AreMeant (test_parts condition.asks)
    → States standing (numbered number (codes "when" ∷ condition_words condition)) (OpensWhen condition)
when_states standing number condition h =
    line_states standing number (codes "when") (condition_words condition) (OpensWhen condition) (when_words condition h) (when_says standing condition h)
