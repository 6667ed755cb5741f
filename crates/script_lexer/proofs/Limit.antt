-- Lines of a script may have 4,096 bytes.
use Rattle.std.proofs.Common.{◌≡◌, ℕ, ◌+◌, Bool, List, [], ◌∷◌, refl, ap, ◌∙◌}
use Rattle.word_model.specs.Numbers.{begins_with}
use Rattle.text_io.specs.declared.kinds.LimitKind.TheVariants as limits
use Rattle.text_io.specs.Limits.{common_limit}
use Rattle.script_model.specs.Lexing.{Scan, Lexed, ByteClass, LineFeedByte, LongByte, SpaceByte, WordByte, ForbiddenByte, line_start, close_word, space, word_byte, add_line, class_of, look_as, look_at, lex_on, lexed}
use Rattle.script_lexer.specs.Limited.{class_within, lex_within, lexed_within}

same_look : (c : ByteClass) (byte : ℕ) (s : Scan) (on same : Scan → Lexed) → ((t : Scan) → on t ≡ same t) → look_as c byte s on ≡ look_as c byte s same
unfolding look_as
same_look LineFeedByte byte s on same is = ap (add_line (close_word s)) (is (line_start (s.number + 1)))
same_look LongByte byte s on same is = refl
same_look SpaceByte byte s on same is = is (space byte s)
same_look WordByte byte s on same is = is (word_byte byte s)
same_look ForbiddenByte byte s on same is = refl

same_class : (byte column : ℕ) (feed_next : Bool) → class_within (common_limit limits.Line) byte feed_next column ≡ class_of byte feed_next column
unfolding class_within class_of
same_class byte column feed_next = refl

same_on : (bs : List ℕ) (s : Scan) → lex_within (common_limit limits.Line) s bs ≡ lex_on s bs
unfolding lex_within lex_on look_at
same_on [] s = refl
same_on (b ∷ bs) s =
    ap (λ (c : ByteClass). look_as c b s (λ (t : Scan). lex_within (common_limit limits.Line) t bs)) (same_class b s.column (begins_with 10 bs))
    ∙ same_look (class_of b (begins_with 10 bs) s.column) b s (λ (t : Scan). lex_within (common_limit limits.Line) t bs) (λ (t : Scan). lex_on t bs) (λ (t : Scan). same_on bs t)

pub script_limit : (most : ℕ) (text : List ℕ) → most ≡ common_limit limits.Line → lexed_within most text ≡ lexed text
unfolding lexed_within lexed
script_limit most text is = ap (λ (m : ℕ). lexed_within m text) is ∙ same_on text (line_start 1)
