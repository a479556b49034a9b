-- What may stand behind a token: it is then the longest spelling that begins where it begins, and no comment begins there.
use Rattle.std.proofs.Common.{◌≡◌, ℕ, ◌<◌, Bool, true, false, not, ◌||◌, ◌==◌, IsTrue, ◌⊎◌, inl, inr, [], ◌∷◌, ◌++◌}
use Rattle.std.proofs.Common.{refl, sym, ap, ◌∙◌, subst, lit<, arith, rules, tests}
use Rattle.std.specs.Char.{is_ascii_alphabetic, is_ascii_alphanumeric}
use Rattle.unicode_ident.proofs.IdentLemmas.{is_xid_continue-ascii}
use Rattle.ae_text.specs.declared.token.Sign.{Sign}
use Rattle.ae_text.specs.declared.token.Sign.TheVariants as sign
use Rattle.ae_text.specs.declared.token.TokenKind.{TokenKind}
use Rattle.ae_text.specs.declared.token.TokenKind.TheVariants as t
use Rattle.ae_text.specs.Tokens.{Text, Stops, is_digit, begins_word, goes_on, sign_text, IsWord, IsNumber, IsQuoted}
use Rattle.ae_text.specs.Tokens.{Spells, IsLongest, NoComment, IsInRange, IsToken}
use Rattle.ae_layout.proofs.from_text.SpellingLemmas.{keyword_is_word, sign_first, signs_start, begins_ascii}
use Rattle.ae_layout.proofs.from_text.SpellingLemmas.{NoDouble, single_longest, double_longest}
use Rattle.ae_layout.proofs.from_text.QuoteLemmas.{quoted_longest, tail_is}
use Rattle.ae_layout.proofs.from_text.LexLemmas.{spells_sign, spells_quote, longest_word, longest_number}
use Rattle.ae_layout.proofs.from_text.LexLemmas.{longest_quoted}
use Rattle.ae_layout.specs.Rows.{goes_on_with, stay_apart}
use Rattle.ae_layout.proofs.from_text.TextLemmas.{first_is, no_truth, not_both}

-- a character that goes on with a sign, to a longer one or to a comment
abbrev pub lengthens : ℕ → Bool
lengthens c = c == 61 || c == 62 || c == 38 || c == 124 || c == 47

-- what may come behind a token
abbrev pub Ends : TokenKind → Text → Type 0
Ends (t.Name b) rest = Stops goes_on rest
Ends (t.Word w) rest = Stops goes_on rest
Ends (t.Int n) rest = Stops is_digit rest
Ends (t.Sign g) rest = Stops lengthens rest
Ends (t.Text b) rest = Unit {0}
Ends t.End rest = Unit {0}

second_is : (b b' c c' : ℕ) (s r : Text) → b ∷ c ∷ s ≡ b' ∷ c' ∷ r → c ≡ c'
second_is b b' c c' s r e = cc

-- what is not true is false
false_by : (b : Bool) → (IsTrue b → ⊥) → b ≡ false
false_by true h = absurd (h refl)
false_by false h = refl

-- ---- signs

-- one character, or two of which the second lengthens a sign and is no slash
abbrev form : Text → Bool
form (b ∷ []) = true
form (b ∷ c ∷ []) = c == 61 || c == 62 || c == 38 || c == 124
form _ = false

sign_form : (g : Sign) → form (sign_text g) ≡ true
sign_form sign.OpenBrace = refl
sign_form sign.CloseBrace = refl
sign_form sign.OpenParen = refl
sign_form sign.CloseParen = refl
sign_form sign.OpenBracket = refl
sign_form sign.CloseBracket = refl
sign_form sign.Less = refl
sign_form sign.Greater = refl
sign_form sign.Away = refl
sign_form sign.Comma = refl
sign_form sign.Semicolon = refl
sign_form sign.Dot = refl
sign_form sign.Assign = refl
sign_form sign.Equal = refl
sign_form sign.NotEqual = refl
sign_form sign.LessEqual = refl
sign_form sign.GreaterEqual = refl
sign_form sign.Plus = refl
sign_form sign.Minus = refl
sign_form sign.Star = refl
sign_form sign.Slash = refl
sign_form sign.Percent = refl
sign_form sign.Not = refl
sign_form sign.AndAnd = refl
sign_form sign.OrOr = refl

abbrev first_lengthens : Text → Bool
first_lengthens [] = false
first_lengthens (c ∷ cs) = lengthens c

sign_lengthens : (g : Sign) → first_lengthens (sign_text g) ≡ goes_on_with g
sign_lengthens sign.OpenBrace = refl
sign_lengthens sign.CloseBrace = refl
sign_lengthens sign.OpenParen = refl
sign_lengthens sign.CloseParen = refl
sign_lengthens sign.OpenBracket = refl
sign_lengthens sign.CloseBracket = refl
sign_lengthens sign.Less = refl
sign_lengthens sign.Greater = refl
sign_lengthens sign.Away = refl
sign_lengthens sign.Comma = refl
sign_lengthens sign.Semicolon = refl
sign_lengthens sign.Dot = refl
sign_lengthens sign.Assign = refl
sign_lengthens sign.Equal = refl
sign_lengthens sign.NotEqual = refl
sign_lengthens sign.LessEqual = refl
sign_lengthens sign.GreaterEqual = refl
sign_lengthens sign.Plus = refl
sign_lengthens sign.Minus = refl
sign_lengthens sign.Star = refl
sign_lengthens sign.Slash = refl
sign_lengthens sign.Percent = refl
sign_lengthens sign.Not = refl
sign_lengthens sign.AndAnd = refl
sign_lengthens sign.OrOr = refl

abbrev Shape : Text → Type 0
Shape s = ((b : ℕ) × (s ≡ b ∷ []))
    ⊎ ((b : ℕ) × (c : ℕ) × (s ≡ b ∷ c ∷ []) × IsTrue (c == 61 || c == 62 || c == 38 || c == 124))

shape_of : (s : Text) → form s ≡ true → Shape s
shape_of [] e = absurd (no_truth e)
shape_of (b ∷ []) e = inl (b, refl)
shape_of (b ∷ c ∷ []) e = inr (b, c, refl, e)
shape_of (b ∷ c ∷ d ∷ s) e = absurd (no_truth e)

second_lengthens : (c : ℕ) → IsTrue (c == 61 || c == 62 || c == 38 || c == 124) → IsTrue (lengthens c)
second_lengthens c h = search (rules, tests)

second_no_slash : (c : ℕ) → c ≡ 47 → IsTrue (c == 61 || c == 62 || c == 38 || c == 124) → ⊥
second_no_slash c e h = let P : ℕ → Type 0 = λ x. IsTrue (x == 61 || x == 62 || x == 38 || x == 124) in no_truth
    (subst P e h)

no_double : (first : ℕ) (rest : Text) → Stops lengthens rest → NoDouble first rest
no_double first rest n = λ second r e g w.
    let P : Text → Type 0 = λ x. form x ≡ true in
    let S : Text → Type 0 = Stops lengthens in
    not_both (lengthens second) (second_lengthens second (subst P w (sign_form g))) (subst S e n)

sign_longest : (g : Sign) (rest : Text) → Stops lengthens rest → IsLongest (sign_text g) rest
sign_longest g rest n = λ k more after e h.
    let f = sign_first g in
    let P : Text → Type 0 = λ x. Spells k (x ++ more) in
    let q = spells_sign k f.0 (f.1 ++ more) f.3 (subst P f.2 h) in
    by_shape q.0 more after e (ap (λ x. x ++ more) f.2 ∙ q.2) (shape_of (sign_text g) (sign_form g))
  where
    by_shape : (h : Sign) (more after : Text) → rest ≡ more ++ after → sign_text g ++ more ≡ sign_text h
        → Shape (sign_text g) → more ≡ []
    by_shape h more after e w (inl p) = single_longest g p.0 rest p.1 (no_double p.0 rest n) h more after e w
    by_shape h more after e w (inr p) = double_longest g p.0 p.1 p.2 h more w

sign_no_comment : (g : Sign) (rest : Text) → Stops lengthens rest → NoComment (sign_text g ++ rest)
sign_no_comment g rest n = λ c e. by_shape c e (shape_of (sign_text g) (sign_form g))
  where
    by_shape : (c : Text) → sign_text g ++ rest ≡ 47 ∷ 47 ∷ c → Shape (sign_text g) → ⊥
    by_shape c e (inl p) =
        let S : Text → Type 0 = Stops lengthens in
        let all : p.0 ∷ rest ≡ 47 ∷ 47 ∷ c = ap (λ x. x ++ rest) (sym p.1) ∙ e in
        let slash : lengthens 47 ≡ false = subst S (tail_is p.0 47 rest (47 ∷ c) all) n in not_both
        (lengthens 47) refl slash
    by_shape c e (inr p) =
        let all : p.0 ∷ p.1 ∷ rest ≡ 47 ∷ 47 ∷ c = ap (λ x. x ++ rest) (sym p.2) ∙ e
        in second_no_slash p.1 (second_is p.0 47 p.1 47 rest c all) p.3

-- ---- words, numbers and texts

word_no_comment : (s rest : Text) → IsWord s → NoComment (s ++ rest)
word_no_comment [] rest w = absurd w
word_no_comment (b ∷ s) rest w = λ c e.
    let P : ℕ → Type 0 = λ x. IsTrue (begins_word x) in
    no_truth (begins_ascii 47 (lit< tt) (subst P (first_is b 47 (s ++ rest) (47 ∷ c) e) w.0))

number_no_comment : (s rest : Text) → IsNumber s → NoComment (s ++ rest)
number_no_comment [] rest w = absurd w
number_no_comment (b ∷ s) rest w = λ c e.
    let P : ℕ → Type 0 = λ x. IsTrue (is_digit x) in
    no_truth (subst P (first_is b 47 (s ++ rest) (47 ∷ c) e) w.0)

quote_no_comment : (bytes s rest : Text) → IsQuoted bytes s → NoComment (s ++ rest)
quote_no_comment bytes s rest q = λ c e. let quote : 34 ≡ 47 = first_is 34 47 _ (47 ∷ c)
    (ap (λ x. x ++ rest) (sym q.whole) ∙ e) in omega (arith, quote)

-- a spelling with the right text behind it is a token
pub token_is : (k : TokenKind) (s rest : Text) → Spells k s → IsInRange k s → Ends k rest → IsToken k s rest
token_is (t.Name b) s rest h r n =
    record { spells = h; longest = longest_word s rest h.1 n; no_comment = word_no_comment s rest h.1; in_range = r }
token_is (t.Int m) s rest h r n =
    record {
      spells = h;
      longest = longest_number s rest h.0 n;
      no_comment = number_no_comment s rest h.0;
      in_range =
          r;
    }
token_is (t.Text b) s rest h r n =
    record { spells = h; longest = longest_quoted b s rest h; no_comment = quote_no_comment b s rest h; in_range = r }
token_is (t.Word w) s rest h r n =
    let P : Text → Type 0 = IsWord in
    let is : IsWord s = subst P (sym h) (keyword_is_word w) in
    record { spells = h; longest = longest_word s rest is n; no_comment = word_no_comment s rest is; in_range = r }
token_is (t.Sign g) s rest h r n =
    let P : Text → Type 0 = λ x. IsToken (t.Sign g) x rest in
    subst P (sym h) (record {
      spells = refl;
      longest = sign_longest g rest n;
      no_comment
          = sign_no_comment g rest n;
      in_range = tt;
    })
token_is t.End s rest h r n = absurd h

-- ---- white space behind a token

pub space_ends : (k : TokenKind) (rest : Text) → Ends k (32 ∷ rest)
space_ends (t.Name b) rest = is_xid_continue-ascii 32 (lit< tt)
space_ends (t.Word w) rest = is_xid_continue-ascii 32 (lit< tt)
space_ends (t.Int n) rest = refl
space_ends (t.Sign g) rest = refl
space_ends (t.Text b) rest = tt
space_ends t.End rest = tt

pub feed_ends : (k : TokenKind) (rest : Text) → Ends k (10 ∷ rest)
feed_ends (t.Name b) rest = is_xid_continue-ascii 10 (lit< tt)
feed_ends (t.Word w) rest = is_xid_continue-ascii 10 (lit< tt)
feed_ends (t.Int n) rest = refl
feed_ends (t.Sign g) rest = refl
feed_ends (t.Text b) rest = tt
feed_ends t.End rest = tt

-- ---- a token behind a token

sign_no_word : (c : ℕ) → IsTrue (signs_start c) → goes_on c ≡ false
sign_no_word c h = is_xid_continue-ascii c (low c h) ∙ false_by (is_ascii_alphanumeric c || c == 95) (no_letter c h)
  where
    low : (c : ℕ) → IsTrue (signs_start c) → c < 128
    low c h = search (rules, tests)

    no_letter : (c : ℕ) → IsTrue (signs_start c) → IsTrue (is_ascii_alphanumeric c || c == 95) → ⊥
    no_letter c h w = search (rules, tests)

sign_no_digit : (c : ℕ) → IsTrue (signs_start c) → is_digit c ≡ false
sign_no_digit c h = false_by (is_digit c) (no_digit c h)
  where
    no_digit : (c : ℕ) → IsTrue (signs_start c) → IsTrue (is_digit c) → ⊥
    no_digit c h w = search (rules, tests)

word_lengthens_none : (c : ℕ) → IsTrue (begins_word c) → lengthens c ≡ false
word_lengthens_none c h = false_by (lengthens c) (λ w. no_letter c (begins_ascii c (low c w) h) w)
  where
    low : (c : ℕ) → IsTrue (lengthens c) → c < 128
    low c w = search (rules, tests)

    no_letter : (c : ℕ) → IsTrue (c == 95 || is_ascii_alphabetic c) → IsTrue (lengthens c) → ⊥
    no_letter c h w = search (rules, tests)

digit_lengthens_none : (c : ℕ) → IsTrue (is_digit c) → lengthens c ≡ false
digit_lengthens_none c h = false_by (lengthens c) (no_digit c h)
  where
    no_digit : (c : ℕ) → IsTrue (is_digit c) → IsTrue (lengthens c) → ⊥
    no_digit c h w = search (rules, tests)

-- a sign behind what stops at signs
sign_stops : (p : ℕ → Bool) → ((c : ℕ) → IsTrue (signs_start c) → p c ≡ false) → (g : Sign) (s rest : Text)
    → s ≡ sign_text g → Stops p (s ++ rest)
sign_stops p h g s rest e = let f = sign_first g in let P : Text → Type 0 =
    λ x. Stops p (x ++ rest) in subst P (sym (e ∙ f.2)) (h f.0 f.3)

sign_behind_sign : (g : Sign) (s rest : Text) → IsTrue (not (goes_on_with g)) → s ≡ sign_text g
    → Stops lengthens (s ++ rest)
sign_behind_sign g s rest n e =
    let f = sign_first g in
    let P : Text → Type 0 = λ x. Stops lengthens (x ++ rest) in
    subst P (sym (e ∙ f.2)) (ap first_lengthens (sym f.2) ∙ sign_lengthens g ∙ not_true (goes_on_with g) n)
  where
    not_true : (b : Bool) → IsTrue (not b) → b ≡ false
    not_true true h = absurd (no_truth h)
    not_true false h = refl

word_behind_sign : (s rest : Text) → IsWord s → Stops lengthens (s ++ rest)
word_behind_sign [] rest w = absurd w
word_behind_sign (b ∷ s) rest w = word_lengthens_none b w.0

number_behind_sign : (s rest : Text) → IsNumber s → Stops lengthens (s ++ rest)
number_behind_sign [] rest w = absurd w
number_behind_sign (b ∷ s) rest w = digit_lengthens_none b w.0

behind_sign : (h : TokenKind) (g : Sign) (s rest : Text) → IsTrue (stay_apart (t.Sign g) h) → Spells h s
    → Stops lengthens (s ++ rest)
behind_sign (t.Name b) g s rest p w = word_behind_sign s rest w.1
behind_sign (t.Int n) g s rest p w = number_behind_sign s rest w.0
behind_sign (t.Text b) g s rest p w = let P : Text → Type 0 = λ x. Stops lengthens (x ++ rest) in subst P
    (sym w.whole) refl
behind_sign (t.Word k) g s rest p w = let P : Text
    → Type 0 = IsWord in word_behind_sign s rest (subst P (sym w) (keyword_is_word k))
behind_sign (t.Sign h) g s rest p w = sign_behind_sign h s rest p w
behind_sign t.End g s rest p w = absurd w

-- what parts from a token may come behind it
pub parts_ends : (k h : TokenKind) (s rest : Text) → IsTrue (stay_apart k h) → Spells h s → Ends k (s ++ rest)
parts_ends (t.Sign g) h s rest p w = behind_sign h g s rest p w
parts_ends (t.Text b) h s rest p w = tt
parts_ends t.End h s rest p w = tt
parts_ends (t.Name b) (t.Sign g) s rest p w = sign_stops goes_on sign_no_word g s rest w
parts_ends (t.Word k) (t.Sign g) s rest p w = sign_stops goes_on sign_no_word g s rest w
parts_ends (t.Int n) (t.Sign g) s rest p w = sign_stops is_digit sign_no_digit g s rest w
parts_ends (t.Name b) (t.Name c) s rest p w = absurd (no_truth p)
parts_ends (t.Name b) (t.Int n) s rest p w = absurd (no_truth p)
parts_ends (t.Name b) (t.Text c) s rest p w = absurd (no_truth p)
parts_ends (t.Name b) (t.Word k) s rest p w = absurd (no_truth p)
parts_ends (t.Name b) t.End s rest p w = absurd w
parts_ends (t.Word k) (t.Name c) s rest p w = absurd (no_truth p)
parts_ends (t.Word k) (t.Int n) s rest p w = absurd (no_truth p)
parts_ends (t.Word k) (t.Text c) s rest p w = absurd (no_truth p)
parts_ends (t.Word k) (t.Word l) s rest p w = absurd (no_truth p)
parts_ends (t.Word k) t.End s rest p w = absurd w
parts_ends (t.Int n) (t.Name c) s rest p w = absurd (no_truth p)
parts_ends (t.Int n) (t.Int m) s rest p w = absurd (no_truth p)
parts_ends (t.Int n) (t.Text c) s rest p w = absurd (no_truth p)
parts_ends (t.Int n) (t.Word k) s rest p w = absurd (no_truth p)
parts_ends (t.Int n) t.End s rest p w = absurd w
