-- The classes of bytes, as the code names them.
use Rattle.script_model.specs.Lexing.{ByteClass as ClassOfByte, LineFeedByte, LongByte, SpaceByte, WordByte, ForbiddenByte}
use Rattle.script_lexer.specs.declared.class.ByteClass.{ByteClass}
use Rattle.script_lexer.specs.declared.class.ByteClass.TheVariants.{LineFeed, Long, Space, Word, Bad}

abbrev pub class_seen : ByteClass → ClassOfByte
class_seen LineFeed = LineFeedByte
class_seen Long = LongByte
class_seen Space = SpaceByte
class_seen Word = WordByte
class_seen Bad = ForbiddenByte
