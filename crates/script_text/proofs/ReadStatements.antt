-- What a line says is in the grammar's ranges, and is no longer printed than the line that was read.
use Rattle.std.proofs.Common.{◌≡◌, ℕ, ◌+◌, ◌≤◌, Bool, true, false, not, ◌&&◌, List, [], ◌∷◌, length, Some, None, refl, ap, sym, ◌∙◌, arith, subst}
use Rattle.std.specs.Prelude.{Option, is_some, option_and_then, Ok, bytes_eq, codes}
use Rattle.std.specs.List.{list_any}
use Rattle.std.proofs.lemmas.Bool.{and_parts}
use Rattle.std.proofs.lemmas.Slice.Eq.{bytes_eq-Decides}
use Rattle.word_model.specs.Names.{is_name}
use Rattle.word_model.specs.Numbers.{decimal}
use Rattle.text_io.specs.declared.kinds.Version.{Version}
use Rattle.text_io.specs.declared.kinds.Version.TheVariants.{First, Second}
use Rattle.script_model.specs.Syntax.{Action}
use Rattle.script_model.specs.Readers.{◌>>=◌}
use Rattle.script_model.specs.Keywords.{lookup}
use Rattle.script_model.specs.Lexing.{Word, Row}
use Rattle.script_model.specs.Lines.{words_of, after_words, row_of}
use Rattle.script_model.specs.Forms.{Form, WholeForm, word_as, none_in, none_left, From, made}
use Rattle.script_model.specs.Commands.{Head, ActionHead, TickHead, EachHead, WhenHead, HandlerHead, EndHead, heads_in}
use Rattle.script_model.specs.Words.{just, versions}
use Rattle.script_model.specs.Statements.{Statement, Does, Ticks, OpensEach, OpensWhen, OpensHandler, Ends, Standing, permitted, head_of, fresh_name_of, condition_as, handler_as, operands_of, statement_of, version_as}
use Rattle.media_queries.proofs.Readings.{OnValue, then_on, weaker_on}
use Rattle.script_text.specs.Parts.{Part, all_words}
use Rattle.script_text.specs.Entries.{entry_at}
use Rattle.script_text.specs.Phrases.{action_head, action_parts, action_words, test_parts, condition_words}
use Rattle.script_text.specs.ScriptText.{line_text}
use Rattle.script_text.specs.WellFormed.{IsName, IfSome, AreMeant, IsAction}
use Rattle.script_text.proofs.WordBytes.{not_true}
use Rattle.script_text.proofs.ReadValues.{chosen_some}
use Rattle.script_text.proofs.Tables.{Each, looked_up}
use Rattle.script_text.proofs.StatementsAgain.{words_in}
use Rattle.script_text.proofs.ReadRows.{room, some_room, IsRow, line_row, line_short}
use Rattle.script_text.proofs.ReadForms.{Shows, Made, made_read, nothing_left}
use Rattle.script_text.proofs.ReadConditions.{WordRead, word_read, ConditionRead, condition_read}

-- the printed words of what a line says
abbrev pub statement_words : Statement → List (List ℕ)
statement_words (Does action) = action_words action
statement_words (Ticks time) = codes "tick" ∷ decimal time ∷ []
statement_words OpensEach = codes "each" ∷ []
statement_words (OpensWhen condition) = codes "when" ∷ condition_words condition
statement_words (OpensHandler name) = codes "handler" ∷ name ∷ []
statement_words Ends = codes "end" ∷ []

-- what it holds is in the grammar's ranges; `tick` and handlers stand outside, `end` inside, and a handler has a new name
abbrev pub IsStatement : Standing → Statement → Type 0
IsStatement standing (Does action) = IsAction standing.version action
IsStatement standing (Ticks time) = (time ≤ 1000000000000) × (standing.outside ≡ true)
IsStatement standing OpensEach = Unit {0}
IsStatement standing (OpensWhen condition) = AreMeant (test_parts condition.asks)
IsStatement standing (OpensHandler name) = IsName name × (list_any (bytes_eq name) standing.names ≡ false) × (standing.outside ≡ true)
IsStatement standing Ends = standing.outside ≡ false

-- The words that lines begin with.

-- a command's word, which a version has, and its parts there
abbrev Commands : Version → List ℕ → Action → List Part → Type 0
Commands version word action parts =
    (action_head version action ≡ word) × (action_parts version action ≡ parts) × (is_some (entry_at (heads_in version) word) ≡ true)

abbrev HeadShows : Version → List ℕ → Head → Type 0
HeadShows version word (ActionHead forms makes) = Shows forms makes (Commands version word)
HeadShows version word TickHead = word ≡ codes "tick"
HeadShows version word EachHead = word ≡ codes "each"
HeadShows version word WhenHead = word ≡ codes "when"
HeadShows version word HandlerHead = word ≡ codes "handler"
HeadShows version word EndHead = word ≡ codes "end"

heads_show : (version : Version) → Each (HeadShows version) (heads_in version)
heads_show First = assumption
heads_show Second = assumption

-- `tick` and `handler` stand outside alone, `end` inside alone
abbrev StandsSo : Bool → Head → Type 0
StandsSo outside TickHead = outside ≡ true
StandsSo outside HandlerHead = outside ≡ true
StandsSo outside EndHead = outside ≡ false
StandsSo outside head = Unit {0}

abbrev HeadRead : Version → Bool → List ℕ → Head → Type 0
HeadRead version outside word head = HeadShows version word head × StandsSo outside head

permitted_shows : (version : Version) (outside : Bool) (word : List ℕ) (head : Head) → HeadShows version word head → IfSome (HeadRead version outside word) (permitted outside head)
unfolding permitted
permitted_shows version true word (ActionHead forms makes) shows = (shows, tt)
permitted_shows version true word TickHead shows = (shows, refl)
permitted_shows version true word EachHead shows = (shows, tt)
permitted_shows version true word WhenHead shows = (shows, tt)
permitted_shows version true word HandlerHead shows = (shows, refl)
permitted_shows version true word EndHead shows = tt
permitted_shows version false word (ActionHead forms makes) shows = (shows, tt)
permitted_shows version false word TickHead shows = tt
permitted_shows version false word EachHead shows = (shows, tt)
permitted_shows version false word WhenHead shows = (shows, tt)
permitted_shows version false word HandlerHead shows = tt
permitted_shows version false word EndHead shows = (shows, refl)

head_shows : (version : Version) (outside : Bool) (word : List ℕ) → IfSome (HeadRead version outside word) (head_of version outside word)
unfolding head_of
head_shows version outside word = by_found (lookup (heads_in version) word) (looked_up (HeadShows version) (heads_in version) (heads_show version) word) where
  by_found : (found : Option Head) → IfSome (HeadShows version word) found → IfSome (HeadRead version outside word) (option_and_then (permitted outside) found)
  by_found None shows = tt
  by_found (Some head) shows = permitted_shows version outside word head shows

-- What stands behind them.

-- a statement with room for its printed words
record Said (standing : Standing) (column last : ℕ) (statement : Statement) : Type 0 where
  meant : IsStatement standing statement
  fits : column + room (statement_words statement) ≤ last + 1

-- parts behind a word say this
abbrev Says : Standing → List ℕ → Statement → List Part → Type 0
Says standing word statement parts = (AreMeant parts → IsStatement standing statement) × (statement_words statement ≡ word ∷ all_words parts)

said : (standing : Standing) (column last : ℕ) (word : List ℕ) (statement : Statement) → Made (Says standing word) (column + (length word + 1)) last statement → Said standing column last statement
unfolding room
said standing column last word statement m =
    let fits = m.fits in
    let long = ap room m.is.1 in
    record { meant = m.is.0 m.meant; fits = omega arith }

made_said : (standing : Standing) (column last : ℕ) (word : List ℕ) (forms : List Form) (makes : From forms Statement) (r : Row) → Shows forms makes (Says standing word)
    → IsRow (column + (length word + 1)) last r → OnValue (Said standing column last) (made forms makes r)
made_said standing column last word forms makes r shows row =
    weaker_on (Made (Says standing word) (column + (length word + 1)) last) (Said standing column last) (made forms makes r)
    (made_read forms makes (Says standing word) shows (column + (length word + 1)) last r row) (said standing column last word)

-- an action with the word and the parts that were read
action_good : (version : Version) (word : List ℕ) (action : Action) (parts : List Part) → Commands version word action parts → AreMeant parts → IsAction version action
action_good version word action parts is h = record {
  known = ap (λ (t : List ℕ). is_some (entry_at (heads_in version) t)) is.0 ∙ is.2;
  operands = subst AreMeant (sym is.1) h;
}

action_room : (version : Version) (word : List ℕ) (action : Action) (parts : List Part) → Commands version word action parts → room (action_words action) ≡ length word + 1 + room (all_words parts)
unfolding room
action_room version word action parts is =
    ap room (sym (words_in version action))
    ∙ ap (λ (t : List ℕ). room (t ∷ all_words (action_parts version action))) is.0 ∙ ap (λ (parts : List Part). room (word ∷ all_words parts)) is.1

action_said : (standing : Standing) (column last : ℕ) (word : List ℕ) (forms : List Form) (makes : From forms Action) (r : Row) → Shows forms makes (Commands standing.version word)
    → IsRow (column + (length word + 1)) last r → OnValue (Said standing column last) (made forms makes r >>= λ action. Ok (Does action))
action_said standing column last word forms makes r shows row =
    then_on (Made (Commands standing.version word) (column + (length word + 1)) last) (Said standing column last) (made forms makes r) (λ action. Ok (Does action))
    (made_read forms makes (Commands standing.version word) shows (column + (length word + 1)) last r row)
    (λ action m.
    let fits = m.fits in
    let long = action_room standing.version word action m.parts m.is in
    record { meant = action_good standing.version word action m.parts m.is m.meant; fits = omega arith })

condition_said : (standing : Standing) (column last : ℕ) (r : Row) → IsRow (column + 5) last r → OnValue (Said standing column last) (condition_as r >>= λ condition. Ok (OpensWhen condition))
unfolding room
condition_said standing column last r row =
    then_on (ConditionRead (column + 5) last) (Said standing column last) (condition_as r) (λ condition. Ok (OpensWhen condition)) (condition_read (column + 5) last r row)
    (λ condition c. record { meant = c.0; fits = omega (arith, c.1) })

-- a handler's name
abbrev NewName : Standing → List ℕ → List ℕ → Type 0
NewName standing word name = IsName name × (list_any (bytes_eq name) standing.names ≡ false) × (word ≡ name)

new_name : (standing : Standing) (word : List ℕ) → IfSome (NewName standing word) (fresh_name_of standing.names word)
unfolding fresh_name_of
new_name standing word =
    let test : Bool = is_name word && not (list_any (bytes_eq word) standing.names) in
    chosen_some (NewName standing word) test (Some word) None (λ h. let parts = and_parts _ _ h in (parts.0, not_true (list_any (bytes_eq word) standing.names) parts.1, refl)) (λ h. tt)

handler_said : (standing : Standing) (column last : ℕ) (r : Row) → standing.outside ≡ true → IsRow (column + 8) last r → OnValue (Said standing column last) (handler_as standing.names r)
unfolding handler_as room
handler_said standing column last r outside row =
    then_on (WordRead (NewName standing) (column + 8) last) (Said standing column last) (word_as (fresh_name_of standing.names) r) (λ name. none_left name.1 >>= λ end. Ok (OpensHandler name.0))
    (word_read (fresh_name_of standing.names) (NewName standing) (new_name standing) (column + 8) last r row)
    (λ name w.
    let next : ℕ = column + 8 + (length w.word + 1) in
    weaker_on (Made (λ statement parts. statement ≡ OpensHandler name.0) next last) (Said standing column last) (none_left name.1 >>= λ end. Ok (OpensHandler name.0))
    (nothing_left (λ statement parts. statement ≡ OpensHandler name.0) (OpensHandler name.0) refl next last name.1 w.row)
    (λ statement m.
    let fits = m.fits in
    let long = ap length w.is.2 in
    subst (Said standing column last) (sym m.is) (record { meant = (w.is.0, w.is.1, outside); fits = omega arith })))

word_long : (column last : ℕ) (word text : List ℕ) (r : Row) → word ≡ text → IsRow (column + (length word + 1)) last r → IsRow (column + (length text + 1)) last r
word_long column last word text r same row = subst (λ (t : List ℕ). IsRow (column + (length t + 1)) last r) same row

operands_said : (standing : Standing) (column last : ℕ) (word : List ℕ) (head : Head) (r : Row) → HeadRead standing.version standing.outside word head → IsRow (column + (length word + 1)) last r
    → OnValue (Said standing column last) (operands_of standing.names head r)
unfolding operands_of
operands_said standing column last word (ActionHead forms makes) r read row = action_said standing column last word forms makes r read.0 row
operands_said standing column last word TickHead r read row =
    made_said standing column last (codes "tick") (WholeForm ∷ []) Ticks r (λ time. (λ h. (h.0, read.1), refl)) (word_long column last word (codes "tick") r read.0 row)
operands_said standing column last word EachHead r read row =
    made_said standing column last (codes "each") [] OpensEach r (λ h. tt, refl) (word_long column last word (codes "each") r read.0 row)
operands_said standing column last word WhenHead r read row = condition_said standing column last r (word_long column last word (codes "when") r read.0 row)
operands_said standing column last word HandlerHead r read row = handler_said standing column last r read.1 (word_long column last word (codes "handler") r read.0 row)
operands_said standing column last word EndHead r read row = made_said standing column last (codes "end") [] Ends r (λ h. read.1, refl) (word_long column last word (codes "end") r read.0 row)

-- Lines.

said_on : (standing : Standing) (column last : ℕ) (r : Row) → IsRow column last r → OnValue (Said standing column last) (statement_of standing r)
unfolding statement_of
said_on standing column last r row =
    then_on (WordRead (HeadRead standing.version standing.outside) column last) (Said standing column last) (word_as (head_of standing.version standing.outside) r)
    (λ head. operands_of standing.names head.0 head.1)
    (word_read (head_of standing.version standing.outside) (HeadRead standing.version standing.outside) (head_shows standing.version standing.outside) column last r row)
    (λ head w. operands_said standing column last w.word head.0 head.1 w.is w.row)

pub record StatementRead (standing : Standing) (line : List ℕ) (statement : Statement) : Type 0 where
  pub meant : IsStatement standing statement
  pub short : length (line_text (statement_words statement)) ≤ length line

pub statement_read : (standing : Standing) (line : List ℕ) (statement : Statement) → statement_of standing (row_of (words_of line) line) ≡ Ok statement → StatementRead standing line statement
statement_read standing line statement h =
    let l = line_row line in
    let last : ℕ = after_words 1 (words_of line) in
    let s = subst (OnValue (Said standing 1 last)) h (said_on standing 1 last (row_of (words_of line) line) l.row) in
    let fits = s.fits in
    let ends = l.ends in
    let short = line_short (statement_words statement) last (omega arith) in
    record { meant = s.meant; short = omega arith }

-- The first line.

-- words of these lengths
abbrev IsScript : List ℕ → Unit {0} → Type 0
IsScript word unit = length word ≡ 6

abbrev IsVersion : List ℕ → Version → Type 0
IsVersion word version = length word ≡ 1

script_shows : (word : List ℕ) → IfSome (IsScript word) (just (codes "script") word)
unfolding just
script_shows word =
    chosen_some (IsScript word) (bytes_eq word (codes "script")) (Some tt) None (λ h. ap length ((bytes_eq-Decides word (codes "script")).0 h)) (λ h. tt)

version_shows : (word : List ℕ) → IfSome (IsVersion word) (lookup versions word)
version_shows word = looked_up IsVersion versions (refl, (refl, tt)) word

-- a line that is read so far has this many bytes
abbrev HasRoom : ℕ → ℕ → Version → Type 0
HasRoom column last version = column + 9 ≤ last + 1

end_room : (column last : ℕ) (version : Version) (r : Row) → column + 9 ≤ last + 1 → OnValue (HasRoom column last) (none_left r >>= λ end. Ok version)
unfolding none_left none_in
end_room column last version r h = by_words r.left where
  by_words : (words : List Word) → OnValue (HasRoom column last) (none_in words >>= λ end. Ok version)
  by_words [] = h
  by_words (w ∷ ws) = tt

-- `script` and a version's word have eight bytes
version_room : (column last : ℕ) (r : Row) → IsRow column last r → OnValue (HasRoom column last) (version_as r)
unfolding version_as
version_room column last r row =
    then_on (WordRead IsScript column last) (HasRoom column last) (word_as (just (codes "script")) r)
    (λ script. word_as (lookup versions) script.1 >>= λ version. none_left version.1 >>= λ end. Ok version.0)
    (word_read (just (codes "script")) IsScript script_shows column last r row)
    (λ script s.
    let next : ℕ = column + (length s.word + 1) in
    then_on (WordRead IsVersion next last) (HasRoom column last) (word_as (lookup versions) script.1) (λ version. none_left version.1 >>= λ end. Ok version.0)
    (word_read (lookup versions) IsVersion version_shows next last script.1 s.row)
    (λ version v.
    let first = s.is in
    let second = v.is in
    let behind = some_room (next + (length v.word + 1)) last version.1.left v.row.words in
    end_room column last version.0 version.1 (omega arith)))

pub version_long : (version : Version) (line : List ℕ) → version_as (row_of (words_of line) line) ≡ Ok version → 8 ≤ length line
version_long version line h =
    let l = line_row line in
    let last : ℕ = after_words 1 (words_of line) in
    let fits = subst (OnValue (HasRoom 1 last)) h (version_room 1 last (row_of (words_of line) line) l.row) in
    let ends = l.ends in
    omega arith
