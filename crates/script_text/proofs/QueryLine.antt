-- The line of a list of media queries is a line for the lexer, and is read as the command that was printed.
use Rattle.std.proofs.Common.{◌≡◌, ◌∙◌, refl, sym, ap, ℕ, ◌+◌, ◌-◌, Bool, true, false, cond, ◌==◌, List, [], ◌∷◌, ◌++◌, length, take, drop, arith, subst, append_assoc, length-append}
use Rattle.std.specs.Prelude.{Some, Result, Ok, codes}
use Rattle.std.specs.List.{list_all}
use Rattle.std.proofs.lemmas.Bool.{and_parts, eqb-true}
use Rattle.std.proofs.lemmas.Bool.Decides.{nat_tests}
use Rattle.std.proofs.lemmas.List.{take_all}
use Rattle.std.proofs.Math.Seq.{drop-append_seam}
use Rattle.word_model.specs.Numbers.{begins_with}
use Rattle.text_io.specs.declared.kinds.Version.{Version}
use Rattle.script_model.specs.Queries.{Feature, WidthFeature, HeightFeature, OrientationFeature, MediaQuery, Typed, NotFeature, AllFeatures, AnyFeatures}
use Rattle.script_model.specs.Readers.{◌>>=◌, with_fault}
use Rattle.script_model.specs.Lexing.{Word}
use Rattle.script_model.specs.Lines.{is_word_byte, is_line_byte, joined, runs_from, before_comment, words_of, after_words, row_of}
use Rattle.script_model.specs.Media.{query_list}
use Rattle.script_model.specs.Words.{name_of}
use Rattle.script_model.specs.Forms.{Taken, NameForm, QueryForm, next_in, next_of, none_in, none_left, query_from, query_as, part_as, made}
use Rattle.script_model.specs.Syntax.{Action, MakeQueryList}
use Rattle.script_model.specs.Statements.{Does, Standing, statement_of}
use Rattle.media_queries.specs.QueryText.{list_text}
use Rattle.media_queries.proofs.ReadsBack.{IsWithin, AreWithin, IsQueryWithin, AreQueriesWithin, printed_again}
use Rattle.script_text.specs.Phrases.{action_at, action_head, action_parts, action_words}
use Rattle.script_text.specs.NumberedLines.{numbered}
use Rattle.script_text.specs.ScriptText.{line_text}
use Rattle.script_text.specs.WellFormed.{IsFeature, AreFeatures, IsQuery, AreQueries, IsQueryList, AreMeant}
use Rattle.script_text.proofs.WordBytes.{IsWord, as_word, is_quiet, all_bytes, name_word}
use Rattle.script_text.proofs.WordsAgain.{name_again}
use Rattle.script_text.proofs.PartsAgain.{row, word_read, stands}
use Rattle.script_text.proofs.StatementsAgain.{IsKnown, action_behind}
use Rattle.script_model.proofs.Runs.{skips, joins}
use Rattle.script_text.proofs.LineWords.{word_spaced, comment_behind, IsLine, spaced_on, line_of, States, sharp_first}
use Rattle.script_text.proofs.QueryBytes.{Clean, list_clean}

-- the first of the words that begin at this column
record First (column : ℕ) (words : List Word) : Type 0 where
  word : Word
  others : List Word
  words_are : words ≡ word ∷ others
  column_is : word.column ≡ column

joined_first : (column b : ℕ) (words : List Word) → First column (joined column b words)
unfolding joined
joined_first column b [] = record { word = record { column = column; text = b ∷ [] }; others = []; words_are = refl; column_is = refl }
joined_first column b (w ∷ ws) = chosen (w.column == column + 1) where
  chosen : (next : Bool) → First column (cond next (record { column = column; text = b ∷ w.text } ∷ ws) (record { column = column; text = b ∷ [] } ∷ w ∷ ws))
  chosen true = record { word = record { column = column; text = b ∷ w.text }; others = ws; words_are = refl; column_is = refl }
  chosen false = record { word = record { column = column; text = b ∷ [] }; others = w ∷ ws; words_are = refl; column_is = refl }

runs_first : (column b : ℕ) (bs : List ℕ) → is_word_byte b ≡ true → First column (runs_from column (b ∷ bs))
runs_first column b bs h = subst (First column) (sym (joins column b bs h)) (joined_first column b (runs_from (column + 1) bs))

-- words whose last one ends here
record EndsAt (last : ℕ) (words : List Word) : Type 0 where
  word : Word
  others : List Word
  words_are : words ≡ word ∷ others
  after : (column : ℕ) → after_words column (word ∷ others) ≡ last

one_run : (column b : ℕ) → EndsAt (column + 1) (joined column b (runs_from (column + 1) []))
unfolding joined runs_from after_words
one_run column b = record { word = record { column = column; text = b ∷ [] }; others = []; words_are = refl; after = λ c. refl }

joined_ends : (last column b : ℕ) (words : List Word) → EndsAt last words → EndsAt last (joined column b words)
unfolding joined after_words
joined_ends last column b words ends = subst (λ (ws : List Word). EndsAt last (joined column b ws)) (sym ends.words_are) (chosen (ends.word.column == column + 1) refl) where
  chosen : (next : Bool) → (ends.word.column == column + 1) ≡ next
      → EndsAt last (cond next (record { column = column; text = b ∷ ends.word.text } ∷ ends.others) (record { column = column; text = b ∷ [] } ∷ ends.word ∷ ends.others))
  chosen true e =
      let near : ends.word.column ≡ column + 1 = eqb-true ends.word.column (column + 1) e in
      record {
        word = record { column = column; text = b ∷ ends.word.text };
        others = ends.others;
        words_are = refl;
        after = λ c. ap (λ (n : ℕ). after_words n ends.others) (omega arith) ∙ ends.after c;
      }
  chosen false e = record { word = record { column = column; text = b ∷ [] }; others = ends.word ∷ ends.others; words_are = refl; after = λ c. ends.after c }

one_more : (last column a : ℕ) (rest : List ℕ) (word : Bool) → is_word_byte a ≡ word → EndsAt last (runs_from (column + 1) rest) → EndsAt last (runs_from column (a ∷ rest))
one_more last column a rest true e behind = subst (EndsAt last) (sym (joins column a rest e)) (joined_ends last column a _ behind)
one_more last column a rest false e behind = subst (EndsAt last) (sym (skips column a rest e)) behind

runs_end : (column : ℕ) (front : List ℕ) (b : ℕ) → is_word_byte b ≡ true → EndsAt (column + length front + 1) (runs_from column (front ++ (b ∷ [])))
runs_end column [] b h =
    subst (EndsAt (column + 0 + 1)) (sym (joins column b [] h)) (subst (λ (n : ℕ). EndsAt n (joined column b (runs_from (column + 1) []))) (omega arith) (one_run column b))
runs_end column (a ∷ more) b h =
    one_more (column + length (a ∷ more) + 1) column a (more ++ (b ∷ [])) (is_word_byte a) refl
    (subst (λ (n : ℕ). EndsAt n (runs_from (column + 1) (more ++ (b ∷ [])))) (omega arith) (runs_end (column + 1) more b h))

-- no word begins a comment
unfoldable AllQuiet : List Word → Type 0
AllQuiet [] = Unit {0}
AllQuiet (w ∷ ws) = (begins_with 35 w.text ≡ false) × AllQuiet ws

joined_quiet : (column b : ℕ) (words : List Word) → (b == 35) ≡ false → AllQuiet words → AllQuiet (joined column b words)
unfolding joined AllQuiet begins_with
joined_quiet column b [] h all = (h, tt)
joined_quiet column b (w ∷ ws) h all = chosen (w.column == column + 1) where
  chosen : (next : Bool) → AllQuiet (cond next (record { column = column; text = b ∷ w.text } ∷ ws) (record { column = column; text = b ∷ [] } ∷ w ∷ ws))
  chosen true = (h, all.1)
  chosen false = (h, all)

not_sharp : (b : ℕ) → is_quiet b ≡ true → (b == 35) ≡ false
not_sharp b h = grind (arith, nat_tests)

runs_quiet : (column : ℕ) (bytes : List ℕ) → list_all is_quiet bytes ≡ true → AllQuiet (runs_from column bytes)
unfolding runs_from AllQuiet
runs_quiet column [] all = tt
runs_quiet column (b ∷ bs) all = chosen (is_word_byte b) (runs_quiet (column + 1) bs (and_parts _ _ all).1) where
  chosen : (word : Bool) → AllQuiet (runs_from (column + 1) bs) → AllQuiet (cond word (joined column b (runs_from (column + 1) bs)) (runs_from (column + 1) bs))
  chosen true behind = joined_quiet column b _ (not_sharp b (and_parts _ _ all).0) behind
  chosen false behind = behind

quiet_words : (words : List Word) → AllQuiet words → before_comment words ≡ words
unfolding before_comment AllQuiet
quiet_words [] all = refl
quiet_words (w ∷ ws) all = ap (λ b. cond b [] (w ∷ before_comment ws)) all.0 ∙ ap (λ (us : List Word). w ∷ us) (quiet_words ws all.1)

-- The line.

media_word : IsWord (codes "media")
media_word = as_word _ refl

abbrev front_text : List ℕ → List ℕ → List ℕ
front_text name document = codes "media " ++ (name ++ (32 ∷ (document ++ (32 ∷ []))))

abbrev query_text : List ℕ → List ℕ → List ℕ → List ℕ
query_text name document queries = codes "media" ++ (32 ∷ (name ++ (32 ∷ (document ++ (32 ∷ queries)))))

text_is : (name document queries : List ℕ) → line_text (codes "media" ∷ name ∷ document ∷ queries ∷ []) ≡ query_text name document queries
unfolding line_text
text_is name document queries = refl

parted : (name document queries : List ℕ) → query_text name document queries ≡ front_text name document ++ queries
parted name document queries = simp append_assoc

front_long : (name document : List ℕ) → length (front_text name document) ≡ 6 + length name + 1 + length document + 1
front_long name document = simp length-append (omega arith)

-- the column at which the queries begin
abbrev start : List ℕ → List ℕ → ℕ
start name document = 7 + length name + 1 + length document + 1

-- the words before the queries, and those of the queries
abbrev words_with : List ℕ → List ℕ → List Word → List Word
words_with name document rest =
    record { column = 1; text = codes "media" } ∷ record { column = 7; text = name } ∷ record { column = 7 + length name + 1; text = document } ∷ rest

line_words : (name document queries : List ℕ) → IsWord name → IsWord document → Clean queries
    → words_of (query_text name document queries) ≡ words_with name document (runs_from (start name document) queries)
unfolding words_of
line_words name document queries named documented clean =
    let second : ℕ = 7 + length name + 1 in
    let rest : List Word = runs_from (start name document) queries in
    ap before_comment
    (word_spaced 1 (codes "media") (name ++ (32 ∷ (document ++ (32 ∷ queries)))) media_word
    ∙ ap (λ (ws : List Word). record { column = 1; text = codes "media" } ∷ ws) (word_spaced 7 name (document ++ (32 ∷ queries)) named)
    ∙ ap (λ (ws : List Word). record { column = 1; text = codes "media" } ∷ record { column = 7; text = name } ∷ ws) (word_spaced second document queries documented))
    ∙ comment_behind (record { column = 1; text = codes "media" }) (record { column = 7; text = name } ∷ record { column = second; text = document } ∷ rest) refl
    ∙ ap (λ (ws : List Word). record { column = 1; text = codes "media" } ∷ ws)
    (comment_behind (record { column = 7; text = name }) (record { column = second; text = document } ∷ rest) (sharp_first name named)
    ∙ ap (λ (ws : List Word). record { column = 7; text = name } ∷ ws)
    (comment_behind (record { column = second; text = document }) rest (sharp_first document documented)
    ∙ ap (λ (ws : List Word). record { column = second; text = document } ∷ ws) (quiet_words rest (runs_quiet (start name document) queries clean.quiet))))

quiet_on : (b : ℕ) → is_quiet b ≡ true → is_line_byte b ≡ true
quiet_on b h = (and_parts _ _ h).0

text_line : (name document queries : List ℕ) → IsWord name → IsWord document → Clean queries → IsLine (query_text name document queries)
text_line name document queries named documented clean = record {
  bytes = spaced_on (codes "media") (name ++ (32 ∷ (document ++ (32 ∷ queries)))) media_word
      (spaced_on name (document ++ (32 ∷ queries)) named (spaced_on document queries documented (all_bytes is_quiet is_line_byte quiet_on queries clean.quiet)));
  some_byte = omega arith;
  first = record { column = 1; text = codes "media" };
  others = record { column = 7; text = name } ∷ record { column = 7 + length name + 1; text = document } ∷ runs_from (start name document) queries;
  words_are = line_words name document queries named documented clean;
}

-- the words end with the line
words_end : (name document queries : List ℕ) → Clean queries → after_words 1 (words_with name document (runs_from (start name document) queries)) ≡ 1 + length (query_text name document queries)
unfolding after_words
words_end name document queries clean =
    let column : ℕ = start name document in
    let stops = clean.stops in
    let ends = runs_end column stops.front stops.last stops.word in
    let long : length queries ≡ length stops.front + 1 = ap length stops.text_is ∙ length-append stops.front (stops.last ∷ []) in
    let whole : length (query_text name document queries) ≡ length (front_text name document) + length queries =
    ap length (parted name document queries) ∙ length-append (front_text name document) queries in
    ap (λ (q : List ℕ). after_words (7 + length name + 1 + length document) (runs_from column q)) stops.text_is
    ∙ ap (after_words (7 + length name + 1 + length document)) ends.words_are
    ∙ ends.after (7 + length name + 1 + length document)
    ∙ omega (arith, front_long name document)

queries_read : (list : List MediaQuery) (queries : List ℕ) → query_list queries ≡ Ok list → (word : Word) (others : List Word) (after : ℕ) (bytes : List ℕ) → drop (word.column - 1) bytes ≡ queries
    → query_as (row (word ∷ others) after bytes) ≡ Ok (list, row [] after bytes)
unfolding query_as next_of next_in query_from
queries_read list queries read word others after bytes behind =
    ap (λ (q : List ℕ). with_fault (λ column. word.column + (column - 1)) (query_list q) >>= λ queries. Ok (queries, row [] after bytes)) behind
    ∙ ap (λ (r : Result (List MediaQuery) ℕ). with_fault (λ column. word.column + (column - 1)) r >>= λ queries. Ok (queries, row [] after bytes)) read

parts_read : (name document : List ℕ) (list : List MediaQuery) (rest : List Word) (after : ℕ) (bytes : List ℕ) → name_of name ≡ Some name → name_of document ≡ Some document
    → query_as (row rest after bytes) ≡ Ok (list, row [] after bytes) → (makes : List ℕ → List ℕ → List MediaQuery → Action)
    → made (NameForm ∷ NameForm ∷ QueryForm ∷ []) makes (row (record { column = 7; text = name } ∷ record { column = 7 + length name + 1; text = document } ∷ rest) after bytes) ≡ Ok (makes name document list)
unfolding made part_as none_left none_in
parts_read name document list rest after bytes named documented read makes =
    let second : ℕ = 7 + length name + 1 in
    ap (λ (r : Taken (List ℕ)). r >>= λ part. made (NameForm ∷ QueryForm ∷ []) (makes part.0) part.1)
    (word_read name_of name 7 name (record { column = second; text = document } ∷ rest) named after bytes)
    ∙ ap (λ (r : Taken (List ℕ)). r >>= λ part. made (QueryForm ∷ []) (makes name part.0) part.1) (word_read name_of document second document rest documented after bytes)
    ∙ ap (λ (r : Taken (List MediaQuery)). r >>= λ part. made [] (makes name document part.0) part.1) read

-- the bounds of a list's lengths, as the reading back of lists wants them
features_within : (features : List Feature) → AreFeatures features → AreWithin features
features_within [] h = tt
features_within (WidthFeature compared units ∷ fs) h = (h.0, features_within fs h.1)
features_within (HeightFeature compared units ∷ fs) h = (h.0, features_within fs h.1)
features_within (OrientationFeature portrait ∷ fs) h = (tt, features_within fs h.1)

feature_within : (feature : Feature) → IsFeature feature → IsWithin feature
feature_within (WidthFeature compared units) h = h
feature_within (HeightFeature compared units) h = h
feature_within (OrientationFeature portrait) h = tt

query_within : (query : MediaQuery) → IsQuery query → IsQueryWithin query
query_within (Typed before medium features) h = features_within features h
query_within (NotFeature feature) h = feature_within feature h
query_within (AllFeatures first others) h = (feature_within first h.0, features_within others h.1)
query_within (AnyFeatures first second others) h = (feature_within first h.0, feature_within second h.1, features_within others h.2)

queries_within : (queries : List MediaQuery) → AreQueries queries → AreQueriesWithin queries
queries_within [] h = tt
queries_within (q ∷ qs) h = (query_within q h.0, queries_within qs h.1)

list_read : (queries : List MediaQuery) → IsQueryList queries → (query_list (list_text queries) ≡ Ok queries) × Clean (list_text queries)
list_read [] h = absurd h
list_read (q ∷ qs) h = (printed_again q qs (queries_within (q ∷ qs) h), list_clean q qs h)

-- the bytes of the row are the line's
row_bytes : (name document queries : List ℕ) → Clean queries
    → take (after_words 1 (words_with name document (runs_from (start name document) queries)) - 1) (query_text name document queries) ≡ query_text name document queries
row_bytes name document queries clean =
    let long = words_end name document queries clean in
    take_all (after_words 1 (words_with name document (runs_from (start name document) queries)) - 1) (query_text name document queries) (omega arith)

media_says : (standing : Standing) (name document : List ℕ) (list : List MediaQuery) → IsKnown standing.version (MakeQueryList name document list) → IsWord name → IsWord document → name_of name ≡ Some name → name_of document ≡ Some document
    → query_list (list_text list) ≡ Ok list → Clean (list_text list)
    → statement_of standing (row_of (words_of (query_text name document (list_text list))) (query_text name document (list_text list))) ≡ Ok (Does (MakeQueryList name document list))
unfolding row_of
media_says standing name document list known name_is document_is named documented read clean =
    let queries : List ℕ = list_text list in
    let text : List ℕ = query_text name document queries in
    let rest : List Word = runs_from (start name document) queries in
    let words : List Word = words_with name document rest in
    let after : ℕ = after_words 1 words in
    let first = runs_first (start name document) clean.starts.first clean.starts.others clean.starts.word in
    let rest_is : rest ≡ first.word ∷ first.others = ap (runs_from (start name document)) clean.starts.text_is ∙ first.words_are in
    let place : first.word.column - 1 ≡ length (front_text name document) = omega (arith, first.column_is, front_long name document) in
    let behind : drop (first.word.column - 1) text ≡ queries =
    ap (λ (n : ℕ). drop n text) place ∙ ap (drop (length (front_text name document))) (parted name document queries) ∙ drop-append_seam (front_text name document) queries in
    let taken : query_as (row rest after text) ≡ Ok (list, row [] after text) =
    ap (λ (ws : List Word). query_as (row ws after text)) rest_is ∙ queries_read list queries read first.word first.others after text behind in
    ap (λ (ws : List Word). statement_of standing (row_of ws text)) (line_words name document queries name_is document_is clean)
    ∙ ap (λ (bytes : List ℕ). statement_of standing (row words after bytes)) (row_bytes name document queries clean)
    ∙ action_behind standing (MakeQueryList name document list) known 1 (record { column = 7; text = name } ∷ record { column = 7 + length name + 1; text = document } ∷ rest) after text
    (parts_read name document list rest after text named documented taken MakeQueryList)

differ : true ≡ false → ⊥
differ e = cc

pub query_line : (version : Version) (action : Action) → stands (action_at version (action_head version action)) ≡ false → AreMeant (action_parts version action) → IsLine (line_text (action_words action))
query_line version (MakeQueryList name document list) e h =
    subst IsLine (sym (text_is name document (list_text list)))
    (text_line name document (list_text list) (name_word name h.0) (name_word document h.1.0) (list_read list h.1.1.0).1)
query_line version action e h = absurd (differ e)

pub query_states : (standing : Standing) (number : ℕ) (action : Action) → IsKnown standing.version action → stands (action_at standing.version (action_head standing.version action)) ≡ false
    → AreMeant (action_parts standing.version action) → States standing (numbered number (action_words action)) (Does action)
unfolding line_of
query_states standing number (MakeQueryList name document list) known e h =
    let again = list_read list h.1.1.0 in
    ap (λ (text : List ℕ). statement_of standing (row_of (words_of text) text)) (text_is name document (list_text list))
    ∙ media_says standing name document list known (name_word name h.0) (name_word document h.1.0) (name_again name h.0).read (name_again document h.1.0).read again.0 again.1
query_states standing number action known e h = absurd (differ e)
