-- A spelling of each kind of token.
use Rattle.std.specs.Prelude.{ℕ, List, codes}
use Rattle.bp_syntax.specs.declared.tokens.TokenKind.{TokenKind}
use Rattle.bp_syntax.specs.declared.tokens.TokenKind.TheVariants as kind
use Rattle.bp_syntax.specs.Tokens.{Token}

-- a spelling of each kind of token
abbrev pub spelling : TokenKind → List ℕ
spelling kind.Name = codes "a"
spelling kind.Zero = codes "0"
spelling kind.One = codes "1"
spelling kind.Semicolon = codes ";"
spelling kind.Comma = codes ","
spelling kind.Open = codes "("
spelling kind.Close = codes ")"
spelling kind.Colon = codes ":"
spelling kind.Bar = codes "|"
spelling kind.Ampersand = codes "&"
spelling kind.Caret = codes "^"
spelling kind.Equal = codes "="
spelling kind.Bang = codes "!"
spelling kind.Question = codes "?"
spelling kind.Becomes = codes ":="
spelling kind.Differ = codes "!="
spelling kind.Implies = codes "=>"
spelling kind.Decl = codes "decl"
spelling kind.Begin = codes "begin"
spelling kind.End = codes "end"
spelling kind.Skip = codes "skip"
spelling kind.Goto = codes "goto"
spelling kind.Return = codes "return"
spelling kind.If = codes "if"
spelling kind.Then = codes "then"
spelling kind.Else = codes "else"
spelling kind.Fi = codes "fi"
spelling kind.While = codes "while"
spelling kind.Do = codes "do"
spelling kind.Od = codes "od"
spelling kind.Assert = codes "assert"
spelling kind.Print = codes "print"
spelling kind.Assume = codes "assume"

-- a token of the kind
abbrev pub some_token : TokenKind → Token
some_token k = record { kind = k; at = 0; text = spelling k }
