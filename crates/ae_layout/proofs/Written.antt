-- Each token that a source can have is read from its canonical spelling.
use Rattle.std.proofs.Common.{◌≡◌, ℕ, ◌^◌, ◌<◌, ◌≤◌, pos, Bool, true, false, ◌&&◌, nat_lt, IsTrue, [], ◌∷◌, ◌++◌}
use Rattle.std.proofs.Common.{length, refl, sym, ap, ◌∙◌, subst, arith, rules, tests}
use Rattle.std.specs.Fmt.{decimal}
use Rattle.std.specs.Str.{encode_utf8_all, all_scalars, IsAscii}
use Rattle.std.proofs.lemmas.Str.{encode_ascii, encodes-IsAscii, chars-IsAscii, IsUtf8-from_ascii, scalars-chars}
use Rattle.std.proofs.lemmas.Str.Parse.{IsNumeralModel, IsDigitsTest, FoldsDigits, numerals_by_fold}
use Rattle.std.proofs.lemmas.Fmt.{IsAscii-decimal, decimal_nonempty, digits_decimal, digits_value-decimal}
use Rattle.ae_text.specs.declared.token.Sign.{Sign}
use Rattle.ae_text.specs.declared.token.Sign.TheVariants as sign
use Rattle.ae_text.specs.declared.token.TokenKind.{TokenKind}
use Rattle.ae_text.specs.declared.token.TokenKind.TheVariants as t
use Rattle.ae_text.specs.Tokens.{Text, Each, is_digit, sign_text, IsNumber, digits_value, value_from, parts_meaning}
use Rattle.ae_text.specs.Tokens.{IsQuoted, Spells, IsInRange}
use Rattle.ae_layout.proofs.from_text.SpellingLemmas.{keyword_same}
use Rattle.ae_layout.specs.Spelling.{token_text}
use Rattle.ae_layout.specs.Rows.{CanSpell}
use Rattle.ae_layout.proofs.Escapes.{quoted, quoted_bytes, quoted_is, quoted_scalars, value_scalars}
use Rattle.std.proofs.lemmas.Bool.{and_parts}

-- the characters of a token's canonical spelling
pub record Written (k : TokenKind) : Type 0 where
  pub characters : Text
  pub bytes : encode_utf8_all characters ≡ token_text k
  pub scalars : all_scalars characters ≡ true
  pub spells : Spells k characters
  pub in_range : IsInRange k characters

-- ---- numbers

digits_test : IsDigitsTest (Each is_digit)
digits_test = record { empty = tt; parts = λ c cs d. (digit_range c d.0, d.1); more = λ c cs r d. (digit_from c r, d) }
  where
    digit_range : (c : ℕ) → IsTrue (is_digit c) → (48 ≤ c) × (c ≤ 57)
    digit_range c h = search (rules, tests)

    digit_from : (c : ℕ) → (48 ≤ c) × (c ≤ 57) → IsTrue (is_digit c)
    digit_from c r = search (rules, tests)

folds : FoldsDigits value_from
folds = record { empty = λ n. refl; more = λ n c cs r. refl }

model : IsNumeralModel (Each is_digit) digits_value
model = numerals_by_fold (Each is_digit) digits_test value_from folds

some_digits : (ds : Text) → 0 < length ds → Each is_digit ds → IsNumber ds
some_digits [] h d = absurd (omega arith)
some_digits (c ∷ ds) h d = d

decimal_scalars : (n : ℕ) → n < 2 ^ 64 → all_scalars (decimal n) ≡ true
decimal_scalars n h = let a : IsAscii (decimal n) = IsAscii-decimal n h in ap all_scalars
    (sym (chars-IsAscii (decimal n) a)) ∙ scalars-chars (decimal n) (IsUtf8-from_ascii (decimal n) a)

written_int : (n : ℕ) → n < 2 ^ 63 → Written (t.Int (pos n))
written_int n h =
    let fits : n < 2 ^ 64 = omega arith in
    let same : digits_value (decimal n) ≡ n = digits_value-decimal model n fits in
    record {
      characters = decimal n;
      bytes = encodes-IsAscii (decimal n) (IsAscii-decimal n fits);
      scalars = decimal_scalars n fits;
      spells = (some_digits (decimal n) (decimal_nonempty n fits) (digits_decimal model n fits), ap (λ m. pos m) (sym same));
      in_range = omega (arith, same);
    }

-- ---- signs

-- all are ASCII
abbrev ascii_text : Text → Bool
ascii_text [] = true
ascii_text (c ∷ cs) = nat_lt c 128 && ascii_text cs

sign_ascii : (g : Sign) → ascii_text (sign_text g) ≡ true
sign_ascii sign.OpenBrace = refl
sign_ascii sign.CloseBrace = refl
sign_ascii sign.OpenParen = refl
sign_ascii sign.CloseParen = refl
sign_ascii sign.OpenBracket = refl
sign_ascii sign.CloseBracket = refl
sign_ascii sign.Less = refl
sign_ascii sign.Greater = refl
sign_ascii sign.Away = refl
sign_ascii sign.Comma = refl
sign_ascii sign.Semicolon = refl
sign_ascii sign.Dot = refl
sign_ascii sign.Assign = refl
sign_ascii sign.Equal = refl
sign_ascii sign.NotEqual = refl
sign_ascii sign.LessEqual = refl
sign_ascii sign.GreaterEqual = refl
sign_ascii sign.Plus = refl
sign_ascii sign.Minus = refl
sign_ascii sign.Star = refl
sign_ascii sign.Slash = refl
sign_ascii sign.Percent = refl
sign_ascii sign.Not = refl
sign_ascii sign.AndAnd = refl
sign_ascii sign.OrOr = refl

ascii_same : (s : Text) → ascii_text s ≡ true → encode_utf8_all s ≡ s
ascii_same [] e = refl
ascii_same (c ∷ cs) e =
    let p = and_parts (nat_lt c 128) (ascii_text cs) e in
    ap (λ x. x ++ encode_utf8_all cs) (encode_ascii c (low c p.0)) ∙ ap (λ x. c ∷ x) (ascii_same cs p.1)
  where
    low : (c : ℕ) → nat_lt c 128 ≡ true → c < 128
    low c h = search (rules, tests)

-- ---- every token

written_text : (bytes s : Text) → IsQuoted bytes s → all_scalars s ≡ true → Written (t.Text bytes)
written_text bytes s q h =
    let cs : Text = parts_meaning q.parts in
    let P : Text → Type 0 = λ x. encode_utf8_all (quoted cs) ≡ token_text (t.Text x) in
    record {
      characters = quoted cs;
      bytes = subst P (sym q.value_is) (quoted_bytes cs);
      scalars = quoted_scalars cs (value_scalars bytes s q h);
      spells = quoted_is bytes cs q.value_is;
      in_range = tt;
    }

pub written : (k : TokenKind) → CanSpell k → Written k
written (t.Name b) c = record {
  characters = c.characters;
  bytes = sym c.spells.0;
  scalars = c.scalars;
  spells =
      c.spells;
  in_range = tt;
}
written (t.Int n) c = let P : _ → Type 0 = λ m. Written (t.Int m) in subst P (sym c.spells.1)
    (written_int (digits_value c.characters) c.in_range)
written (t.Text b) c = written_text b c.characters c.spells c.scalars
written (t.Word w) c = record {
  characters = c.characters;
  bytes = ap encode_utf8_all c.spells
      ∙ keyword_same w;
  scalars = c.scalars;
  spells = c.spells;
  in_range = tt;
}
written (t.Sign g) c = record {
  characters = c.characters;
  bytes = ap encode_utf8_all c.spells
      ∙ ascii_same (sign_text g) (sign_ascii g);
  scalars = c.scalars;
  spells = c.spells;
  in_range = tt;
}
written t.End c = absurd c.spells
