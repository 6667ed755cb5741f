-- A word in the terms of the definition.
use Rattle.script_model.specs.Lexing as model
use Rattle.script_syntax.specs.declared.words.Word.{Word}

abbrev pub word_of : Word → model.Word
word_of word = record { column = word.column; text = word.text.now }
