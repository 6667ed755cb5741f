-- The words of a line are read as what the line says.
use Rattle.std.proofs.Common.{◌≡◌, ℕ, ◌+◌, ◌≤◌, Bool, true, false, cond, ◌&&◌, not, List, [], ◌∷◌, ◌++◌, length, Some, None, refl, ap, sym, ◌∙◌, subst}
use Rattle.std.specs.Prelude.{Option, is_some, option_and_then, Result, Ok, bytes_eq, codes}
use Rattle.std.specs.List.{list_any}
use Rattle.std.proofs.lemmas.Slice.Eq.{bytes_eq-Decides}
use Rattle.word_model.specs.Names.{is_name}
use Rattle.word_model.specs.Numbers.{decimal}
use Rattle.text_io.specs.declared.kinds.Version.{Version}
use Rattle.text_io.specs.declared.kinds.Version.TheVariants.{First, Second}
use Rattle.script_model.specs.Syntax.{Action, Viewport, Test, Seen, Condition}
use Rattle.script_model.specs.Readers.{◌>>=◌}
use Rattle.script_model.specs.Keywords.{lookup}
use Rattle.script_model.specs.Lexing.{Word, Row}
use Rattle.script_model.specs.Forms.{Taken, WholeForm, none_in, none_left, From, made}
use Rattle.script_model.specs.Commands.{TestShape, TestOf, tests, Head, ActionHead, TickHead, EachHead, WhenHead, HandlerHead, EndHead, heads, ratio_head, heads_in}
use Rattle.script_model.specs.Statements.{Statement, Does, Ticks, OpensEach, OpensWhen, OpensHandler, Ends, Standing, permitted, head_of, fresh_name_of, negation_in, test_in, condition_behind, condition_as, handler_as, operands_of, statement_of}
use Rattle.script_text.specs.Parts.{all_words}
use Rattle.script_text.specs.Entries.{entry_at, ValuesOf}
use Rattle.script_text.specs.Phrases.{action_entry, all_heads, action_at, action_phrase, action_head, action_parts, action_words, test_entry, test_at, test_phrase, test_head, test_parts, condition_words}
use Rattle.script_text.specs.WellFormed.{AreMeant}
use Rattle.script_text.proofs.WordBytes.{IsWord}
use Rattle.script_text.proofs.Tables.{lookup_found, table_word}
use Rattle.script_text.proofs.PartsAgain.{words_at, row, word_read, made_again, stands, made_of, IsMadeOf, phrase_again}

-- the table of commands makes each action of what it is said by
action_again : (version : Version) (action : Action) → made_of (action_at version (action_head version action)) (action_phrase version action).values ≡ action
action_again version (Viewport width height) = refl
action_again version action = refl

pub action_word : (version : Version) (action : Action) → IsWord (action_head version action)
action_word version action = by_found (entry_at (all_heads version) (action_head version action)) (action_phrase version action).values refl where
  by_found : (head : Option Head) → ValuesOf (action_entry head) → entry_at (all_heads version) (action_head version action) ≡ head → IsWord (action_head version action)
  by_found None values e = absurd values
  by_found (Some head) values e = table_word (all_heads version) refl (action_head version action) head (lookup_found (all_heads version) (action_head version action) ∙ e)

-- an action has the same words in each version
pub words_in : (version : Version) (action : Action) → action_head version action ∷ all_words (action_parts version action) ≡ action_words action
words_in version (Viewport width height) = refl
words_in version action = refl

-- a version has the word of an action
abbrev pub IsKnown : Version → Action → Type 0
IsKnown version action = is_some (entry_at (heads_in version) (action_head version action)) ≡ true

no_ratio : (word : List ℕ) → is_some (entry_at (heads First) word) ≡ true → bytes_eq word (codes "ratio") ≡ false
no_ratio word known = by_test (bytes_eq word (codes "ratio")) refl where
  by_test : (same : Bool) → bytes_eq word (codes "ratio") ≡ same → same ≡ false
  by_test true e =
      let none : false ≡ true = subst (λ (t : List ℕ). is_some (entry_at (heads First) t) ≡ true) ((bytes_eq-Decides word (codes "ratio")).0 e) known in
      absurd cc
  by_test false e = refl

-- a word that a version has begins the same in the table with all commands
entry_known : (version : Version) (word : List ℕ) → is_some (entry_at (heads_in version) word) ≡ true → entry_at (heads_in version) word ≡ entry_at (all_heads version) word
entry_known First word known = sym (ap (λ (t : Bool). cond t (Some ratio_head.means) (entry_at (heads First) word)) (no_ratio word known))
entry_known Second word known = refl

-- a line says this, wherever its words end
abbrev pub Says : Standing → List Word → Statement → Type 0
Says standing words statement = (after : ℕ) (bytes : List ℕ) → statement_of standing (row words after bytes) ≡ Ok statement

headed : (standing : Standing) (head : Head) (word : List ℕ) (column : ℕ) (rest : List Word) → head_of standing.version standing.outside word ≡ Some head → (after : ℕ) (bytes : List ℕ)
    → statement_of standing (row (record { column = column; text = word } ∷ rest) after bytes) ≡ operands_of standing.names head (row rest after bytes)
unfolding statement_of
headed standing head word column rest h after bytes =
    ap (λ (r : Taken Head). r >>= λ head. operands_of standing.names head.0 head.1) (word_read (head_of standing.version standing.outside) head column word rest h after bytes)

action_permitted : (version : Version) (outside : Bool) (word : List ℕ) (forms : _) (makes : From forms Action) → lookup (heads_in version) word ≡ Some (ActionHead forms makes)
    → head_of version outside word ≡ Some (ActionHead forms makes)
unfolding head_of permitted
action_permitted version true word forms makes h = ap (option_and_then (permitted true)) h
action_permitted version false word forms makes h = ap (option_and_then (permitted false)) h

operands_action : (names : List (List ℕ)) (forms : _) (makes : From forms Action) (r : Row) → operands_of names (ActionHead forms makes) r ≡ (made forms makes r >>= λ action. Ok (Does action))
unfolding operands_of
operands_action names forms makes r = refl

head_behind : (standing : Standing) (word : List ℕ) (head : Option Head) (values : ValuesOf (action_entry head)) → lookup (heads_in standing.version) word ≡ head → (column : ℕ) (rest : List Word) (after : ℕ) (bytes : List ℕ)
    → IsMadeOf (action_entry head) values (row rest after bytes)
    → statement_of standing (row (record { column = column; text = word } ∷ rest) after bytes) ≡ Ok (Does (made_of (action_entry head) values))
head_behind standing word (Some (ActionHead forms makes)) values found column rest after bytes h =
    headed standing (ActionHead forms makes) word column rest (action_permitted standing.version standing.outside word forms makes found) after bytes
    ∙ operands_action standing.names forms makes (row rest after bytes)
    ∙ ap (λ (r : Result Action ℕ). r >>= λ action. Ok (Does action)) h
head_behind standing word head values found column rest after bytes h = absurd values

-- what stands behind a command's word
pub action_behind : (standing : Standing) (action : Action) → IsKnown standing.version action → (column : ℕ) (rest : List Word) (after : ℕ) (bytes : List ℕ)
    → IsMadeOf (action_at standing.version (action_head standing.version action)) (action_phrase standing.version action).values (row rest after bytes)
    → statement_of standing (row (record { column = column; text = action_head standing.version action } ∷ rest) after bytes) ≡ Ok (Does action)
action_behind standing action known column rest after bytes h =
    let version : Version = standing.version in
    let word : List ℕ = action_head version action in
    head_behind standing word (entry_at (all_heads version) word) (action_phrase version action).values (lookup_found (heads_in version) word ∙ entry_known version word known) column rest after bytes h
    ∙ ap (λ (a : Action). Ok (Does a)) (action_again version action)

pub action_says : (standing : Standing) (action : Action) → IsKnown standing.version action → stands (action_at standing.version (action_head standing.version action)) ≡ true
    → AreMeant (action_parts standing.version action) → Says standing (words_at 1 (action_words action)) (Does action)
unfolding words_at
action_says standing action known stands h after bytes =
    let version : Version = standing.version in
    let column : ℕ = 1 + length (action_head version action) + 1 in
    ap (λ (ts : List (List ℕ)). statement_of standing (row (words_at 1 ts) after bytes)) (sym (words_in version action))
    ∙ action_behind standing action known 1 (words_at column (all_words (action_parts version action))) after bytes
    (phrase_again (action_at version (action_head version action)) (action_phrase version action).values stands h column after bytes)

tick_permitted : (version : Version) → head_of version true (codes "tick") ≡ Some TickHead
unfolding head_of permitted lookup
tick_permitted First = refl
tick_permitted Second = refl

pub tick_says : (version : Version) (names : List (List ℕ)) (time : ℕ) → time ≤ 1000000000000
    → Says (record { version = version; outside = true; names = names }) (words_at 1 (codes "tick" ∷ decimal time ∷ [])) (Ticks time)
unfolding words_at operands_of
tick_says version names time h after bytes =
    headed (record { version = version; outside = true; names = names }) TickHead (codes "tick") 1 (words_at 6 (decimal time ∷ [])) (tick_permitted version) after bytes
    ∙ made_again (WholeForm ∷ []) Ticks (time, tt) refl (h, tt) 6 after bytes

each_permitted : (version : Version) (outside : Bool) → head_of version outside (codes "each") ≡ Some EachHead
unfolding head_of permitted lookup
each_permitted First true = refl
each_permitted First false = refl
each_permitted Second true = refl
each_permitted Second false = refl

when_permitted : (version : Version) (outside : Bool) → head_of version outside (codes "when") ≡ Some WhenHead
unfolding head_of permitted lookup
when_permitted First true = refl
when_permitted First false = refl
when_permitted Second true = refl
when_permitted Second false = refl

pub each_says : (standing : Standing) → Says standing (words_at 1 (codes "each" ∷ [])) OpensEach
unfolding words_at operands_of made none_left none_in
each_says standing after bytes = headed standing EachHead (codes "each") 1 [] (each_permitted standing.version standing.outside) after bytes

end_permitted : (version : Version) → head_of version false (codes "end") ≡ Some EndHead
unfolding head_of permitted lookup
end_permitted First = refl
end_permitted Second = refl

pub end_says : (version : Version) (names : List (List ℕ)) → Says (record { version = version; outside = false; names = names }) (words_at 1 (codes "end" ∷ [])) Ends
unfolding words_at operands_of made none_left none_in
end_says version names after bytes = headed (record { version = version; outside = false; names = names }) EndHead (codes "end") 1 [] (end_permitted version) after bytes

fresh : (names : List (List ℕ)) (name : List ℕ) → is_name name ≡ true → list_any (bytes_eq name) names ≡ false → fresh_name_of names name ≡ Some name
unfolding fresh_name_of
fresh names name h new =
    ap (λ b. cond (b && not (list_any (bytes_eq name) names)) (Some name) None) h ∙ ap (λ b. cond (not b) (Some name) None) new

handler_permitted : (version : Version) → head_of version true (codes "handler") ≡ Some HandlerHead
unfolding head_of permitted lookup
handler_permitted First = refl
handler_permitted Second = refl

pub handler_says : (version : Version) (names : List (List ℕ)) (name : List ℕ) → is_name name ≡ true → list_any (bytes_eq name) names ≡ false
    → Says (record { version = version; outside = true; names = names }) (words_at 1 (codes "handler" ∷ name ∷ [])) (OpensHandler name)
unfolding words_at operands_of handler_as none_left none_in
handler_says version names name h new after bytes =
    headed (record { version = version; outside = true; names = names }) HandlerHead (codes "handler") 1 (words_at 9 (name ∷ [])) (handler_permitted version) after bytes
    ∙ ap (λ (r : Taken (List ℕ)). r >>= λ name. none_left name.1 >>= λ end. Ok (OpensHandler name.0)) (word_read (fresh_name_of names) name 9 name [] (fresh names name h new) after bytes)

-- Conditions.

-- the table of tests makes each test of what it is said by
test_again : (test : Test) → made_of (test_at (test_head test)) (test_phrase test).values ≡ test
test_again Seen = refl
test_again test = refl

pub test_stands : (test : Test) → stands (test_at (test_head test)) ≡ true
test_stands Seen = refl
test_stands test = refl

no_negation : (test : Test) → bytes_eq (test_head test) (codes "not") ≡ false
no_negation Seen = refl
no_negation test = refl

pub test_word : (test : Test) → IsWord (test_head test)
test_word test = by_found (entry_at tests (test_head test)) (test_phrase test).values refl where
  by_found : (shape : Option TestShape) → ValuesOf (test_entry shape) → entry_at tests (test_head test) ≡ shape → IsWord (test_head test)
  by_found None values e = absurd values
  by_found (Some shape) values e = table_word tests refl (test_head test) shape (lookup_found tests (test_head test) ∙ e)

shape_behind : (negated : Bool) (word : List ℕ) (shape : Option TestShape) (values : ValuesOf (test_entry shape)) → lookup tests word ≡ shape → (column : ℕ) (rest : List Word) (after : ℕ) (bytes : List ℕ)
    → IsMadeOf (test_entry shape) values (row rest after bytes)
    → condition_behind negated (row (record { column = column; text = word } ∷ rest) after bytes) ≡ Ok (record { negated = negated; asks = made_of (test_entry shape) values })
unfolding condition_behind test_in
shape_behind negated word None values found column rest after bytes h = absurd values
shape_behind negated word (Some (TestOf forms makes)) values found column rest after bytes h =
    ap (λ (r : Taken TestShape). r >>= λ test. test_in test.0 test.1 >>= λ asks. Ok (record { negated = negated; asks = asks })) (word_read (lookup tests) (TestOf forms makes) column word rest found after bytes)
    ∙ ap (λ (r : Result Test ℕ). r >>= λ asks. Ok (record { negated = negated; asks = asks })) h

test_behind : (negated : Bool) (test : Test) → AreMeant (test_parts test) → (column after : ℕ) (bytes : List ℕ)
    → condition_behind negated (row (words_at column (test_head test ∷ all_words (test_parts test))) after bytes) ≡ Ok (record { negated = negated; asks = test })
unfolding words_at
test_behind negated test h column after bytes =
    let word : List ℕ = test_head test in
    let next : ℕ = column + length word + 1 in
    shape_behind negated word (entry_at tests word) (test_phrase test).values (lookup_found tests word) column (words_at next (all_words (test_parts test))) after bytes
    (phrase_again (test_at word) (test_phrase test).values (test_stands test) h next after bytes)
    ∙ ap (λ (t : Test). Ok (record { negated = negated; asks = t })) (test_again test)

negated_read : (negated : Bool) (test : Test) → AreMeant (test_parts test) → (column after : ℕ) (bytes : List ℕ)
    → condition_as (row (words_at column (cond negated (codes "not" ∷ []) [] ++ (test_head test ∷ all_words (test_parts test)))) after bytes) ≡ Ok (record { negated = negated; asks = test })
unfolding condition_as negation_in words_at
negated_read true test h column after bytes = test_behind true test h (column + 3 + 1) after bytes
negated_read false test h column after bytes =
    let words : List Word = words_at column (test_head test ∷ all_words (test_parts test)) in
    ap (λ (b : Bool). condition_behind (cond {A = Bool × Row} b (true, row (words_at (column + length (test_head test) + 1) (all_words (test_parts test))) after bytes) (false, row words after bytes)).0
    (cond {A = Bool × Row} b (true, row (words_at (column + length (test_head test) + 1) (all_words (test_parts test))) after bytes) (false, row words after bytes)).1) (no_negation test)
    ∙ test_behind false test h column after bytes

condition_read : (condition : Condition) → AreMeant (test_parts condition.asks) → (column after : ℕ) (bytes : List ℕ)
    → condition_as (row (words_at column (condition_words condition)) after bytes) ≡ Ok condition
condition_read condition h column after bytes = negated_read condition.negated condition.asks h column after bytes

pub when_says : (standing : Standing) (condition : Condition) → AreMeant (test_parts condition.asks)
    → Says standing (words_at 1 (codes "when" ∷ condition_words condition)) (OpensWhen condition)
unfolding words_at operands_of
when_says standing condition h after bytes =
    headed standing WhenHead (codes "when") 1 (words_at 6 (condition_words condition)) (when_permitted standing.version standing.outside) after bytes
    ∙ ap (λ (r : Result Condition ℕ). r >>= λ condition. Ok (OpensWhen condition)) (condition_read condition h 6 after bytes)
