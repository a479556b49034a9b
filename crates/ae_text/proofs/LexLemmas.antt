-- What begins a text is one piece.
use Rattle.std.proofs.Common.{◌≡◌, ◌≢◌, ℕ, ◌^◌, ◌<◌, ◌≤◌, pos, ℤ, Bool, true, false, ◌||◌, ◌==◌, IsTrue, [], ◌∷◌}
use Rattle.std.proofs.Common.{◌++◌, drop, Some, None, ◌⊎◌, inl, inr, refl, sym, ap, ◌∙◌, subst, append-nil, arith}
use Rattle.std.proofs.Common.{lit<, rules, tests}
use Rattle.ae_text.specs.declared.token.Sign.{Sign}
use Rattle.ae_text.specs.declared.token.TokenKind.{TokenKind}
use Rattle.ae_text.specs.declared.token.TokenKind.TheVariants as t
use Rattle.ae_text.specs.declared.refusal.Rule.{Rule}
use Rattle.std.proofs.lemmas.Bool.{eqb-true}
use Rattle.std.specs.Str.{chars, encode_utf8_all}
use Rattle.std.specs.Char.{is_ascii_alphabetic}
use Rattle.unicode_ident.proofs.IdentLemmas.{is_xid_start-is_xid_continue, is_xid_continue-ascii}
use Rattle.unicode_ident.specs.Ident.{is_xid_start, is_xid_continue}
use Rattle.ae_text.specs.Tokens.{Text, Each, Stops, is_white, is_digit, begins_word, goes_on, in_line, sign_text}
use Rattle.ae_text.specs.Tokens.{IsWord, IsNumber, digits_value, IsQuoted, Spells, IsLongest, NoComment, IsInRange}
use Rattle.ae_text.specs.Tokens.{TextPiece, White, Comment, Tok, piece_text, IsPiece, IsNothing, IsTooLarge, IsFault}
use Rattle.ae_text.specs.Tokens.{parts_text}
use Rattle.ae_text.specs.Scan.{Front, Spans, Cuts, NoSign, SignThen, CommentThen, ValueThen, FaultAfter}
use Rattle.ae_text.proofs.SpellingLemmas.{keyword_is_word, keyword_unique, sign_unique, sign_first, signs_start}
use Rattle.ae_text.proofs.SpellingLemmas.{begins_ascii}
use Rattle.ae_text.proofs.QuoteLemmas.{quoted_longest, quoted_value}
use Rattle.ae_text.proofs.ScanLemmas.{front_nil, digits_are}
use Rattle.ae_text.proofs.TextLemmas.{first_is, no_truth, not_both}

-- ---- bytes

each-append : (c : ℕ → Bool) (a b : Text) → Each c (a ++ b) → Each c b
each-append c [] b e = e
each-append c (x ∷ a) b e = each-append c a b e.1

-- what goes on with a byte of the class has stopped too early
no_longer : (c : ℕ → Bool) (s more rest after : Text) → Stops c rest → rest ≡ more ++ after → Each c (s ++ more)
    → more ≡ []
no_longer c s [] rest after n e a = refl
no_longer c s (x ∷ more) rest after n e a =
    let P : Text → Type 0 = Stops c in
    let stops : Stops c (x ∷ (more ++ after)) = subst P e n in
    let each : Each c (x ∷ more) = each-append c s (x ∷ more) a in
    absurd (not_both (c x) each.0 stops)

letter_is_word : (b : ℕ) → IsTrue (begins_word b) → IsTrue (goes_on b)
letter_is_word b h = by_test (b == 95) refl h
  where
    underscore : b ≡ 95 → is_xid_continue b ≡ true
    underscore e = ap is_xid_continue e ∙ is_xid_continue-ascii 95 (lit< tt)

    by_test : (t : Bool) → (b == 95) ≡ t → (t || is_xid_start b) ≡ true → is_xid_continue b ≡ true
    by_test true e h = underscore (eqb-true b 95 e)
    by_test false e h = is_xid_start-is_xid_continue b h

letter_no_digit : (b : ℕ) → IsTrue (begins_word b) → IsTrue (is_digit b) → ⊥
letter_no_digit b h d = ascii_no_digit b (begins_ascii b (digit_low b d) h) d
  where
    digit_low : (b : ℕ) → IsTrue (is_digit b) → b < 128
    digit_low b h = search (rules, tests)

    ascii_no_digit : (b : ℕ) → IsTrue (b == 95 || is_ascii_alphabetic b) → IsTrue (is_digit b) → ⊥
    ascii_no_digit b h d = search (rules, tests)

white_low : (b : ℕ) → IsTrue (is_white b) → b < 128
white_low b h = search (rules, tests)

white_no_letter : (b : ℕ) → IsTrue (is_white b) → IsTrue (begins_word b) → ⊥
white_no_letter b w h = ascii_no_white b (begins_ascii b (white_low b w) h) w
  where
    ascii_no_white : (b : ℕ) → IsTrue (b == 95 || is_ascii_alphabetic b) → IsTrue (is_white b) → ⊥
    ascii_no_white b h w = search (rules, tests)

white_no_digit : (b : ℕ) → IsTrue (is_white b) → IsTrue (is_digit b) → ⊥
white_no_digit b w h = search (rules, tests)

white_no_sign : (b : ℕ) → IsTrue (is_white b) → IsTrue (signs_start b) → ⊥
white_no_sign b w h = search (rules, tests)

white_no_quote : (b : ℕ) → IsTrue (is_white b) → b ≡ 34 → ⊥
white_no_quote b w h = search (rules, tests)

letter_no_sign : (b : ℕ) → IsTrue (begins_word b) → IsTrue (signs_start b) → ⊥
letter_no_sign b h w = ascii_no_sign b (begins_ascii b (sign_low b w) h) w
  where
    sign_low : (b : ℕ) → IsTrue (signs_start b) → b < 128
    sign_low b h = search (rules, tests)

    ascii_no_sign : (b : ℕ) → IsTrue (b == 95 || is_ascii_alphabetic b) → IsTrue (signs_start b) → ⊥
    ascii_no_sign b h w = search (rules, tests)

digit_no_sign : (b : ℕ) → IsTrue (is_digit b) → IsTrue (signs_start b) → ⊥
digit_no_sign b w h = search (rules, tests)

-- neither a quote nor a slash begins a word
quote_no_letter : IsTrue (begins_word 34) → ⊥
quote_no_letter h = no_truth (begins_ascii 34 (lit< tt) h)

slash_no_letter : IsTrue (begins_word 47) → ⊥
slash_no_letter h = no_truth (begins_ascii 47 (lit< tt) h)

quote_no_digit : IsTrue (is_digit 34) → ⊥
quote_no_digit h = cc

quote_no_sign : IsTrue (signs_start 34) → ⊥
quote_no_sign h = cc

slash_no_digit : IsTrue (is_digit 47) → ⊥
slash_no_digit h = cc

-- ---- how each kind of spelling begins

pub spells_word : (k : TokenKind) (b : ℕ) (s : Text) → IsTrue (begins_word b) → Spells k (b ∷ s) → Each goes_on (b ∷ s)
spells_word (t.Name bytes) b s l h = (letter_is_word b l, h.1.1)
spells_word (t.Int n) b s l h = absurd (letter_no_digit b l h.0.0)
spells_word (t.Text bytes) b s l h = let P : ℕ → Type 0 =
    λ x. IsTrue (begins_word x) in absurd (quote_no_letter (subst P (first_is b 34 s _ h.whole) l))
spells_word (t.Word k) b s l h =
    let P : Text → Type 0 = IsWord in
    let w : IsWord (b ∷ s) = subst P (sym h) (keyword_is_word k) in (letter_is_word b l, w.1)
spells_word (t.Sign g) b s l h =
    let f = sign_first g in
    let P : ℕ → Type 0 = λ x. IsTrue (begins_word x) in
    absurd (letter_no_sign f.0 (subst P (first_is b f.0 s f.1 (h ∙ f.2)) l) f.3)
spells_word t.End b s l h = absurd h

pub spells_number : (k : TokenKind) (b : ℕ) (s : Text) → IsTrue (is_digit b) → Spells k (b ∷ s)
    → (k ≡ t.Int (pos (digits_value (b ∷ s)))) × Each is_digit (b ∷ s)
spells_number (t.Name bytes) b s d h = absurd (letter_no_digit b h.1.0 d)
spells_number (t.Int n) b s d h = (ap (λ v. t.Int v) h.1, h.0)
spells_number (t.Text bytes) b s d h = let P : ℕ → Type 0 =
    λ x. IsTrue (is_digit x) in absurd (quote_no_digit (subst P (first_is b 34 s _ h.whole) d))
spells_number (t.Word k) b s d h =
    let P : Text → Type 0 = IsWord in
    let w : IsWord (b ∷ s) = subst P (sym h) (keyword_is_word k) in absurd (letter_no_digit b w.0 d)
spells_number (t.Sign g) b s d h =
    let f = sign_first g in
    let P : ℕ → Type 0 = λ x. IsTrue (is_digit x) in
    absurd (digit_no_sign f.0 (subst P (first_is b f.0 s f.1 (h ∙ f.2)) d) f.3)
spells_number t.End b s d h = absurd h

pub spells_sign : (k : TokenKind) (b : ℕ) (s : Text) → IsTrue (signs_start b) → Spells k (b ∷ s)
    → (g : Sign) × (k ≡ t.Sign g) × (b ∷ s ≡ sign_text g)
spells_sign (t.Name bytes) b s c h = absurd (letter_no_sign b h.1.0 c)
spells_sign (t.Int n) b s c h = absurd (digit_no_sign b h.0.0 c)
spells_sign (t.Text bytes) b s c h = let P : ℕ → Type 0 =
    λ x. IsTrue (signs_start x) in absurd (quote_no_sign (subst P (first_is b 34 s _ h.whole) c))
spells_sign (t.Word k) b s c h =
    let P : Text → Type 0 = IsWord in
    let w : IsWord (b ∷ s) = subst P (sym h) (keyword_is_word k) in absurd (letter_no_sign b w.0 c)
spells_sign (t.Sign g) b s c h = (g, refl, h)
spells_sign t.End b s c h = absurd h

pub spells_quote : (k : TokenKind) (s : Text) → Spells k (34 ∷ s) → (bytes : Text) × (k ≡ t.Text bytes)
    × IsQuoted bytes (34 ∷ s)
spells_quote (t.Name bytes) s h = absurd (quote_no_letter h.1.0)
spells_quote (t.Int n) s h = absurd (quote_no_digit h.0.0)
spells_quote (t.Text bytes) s h = (bytes, refl, h)
spells_quote (t.Word k) s h =
    let P : Text → Type 0 = IsWord in
    let w : IsWord (34 ∷ s) = subst P (sym h) (keyword_is_word k) in absurd (quote_no_letter w.0)
spells_quote (t.Sign g) s h =
    let f = sign_first g in
    let P : ℕ → Type 0 = λ x. IsTrue (signs_start x) in
    absurd (quote_no_sign (subst P (sym (first_is 34 f.0 s f.1 (h ∙ f.2))) f.3))
spells_quote t.End s h = absurd h

-- a letter, a digit, what begins a sign, or a quote
abbrev pub Starts : ℕ → Type 0
Starts b = IsTrue (begins_word b) ⊎ (IsTrue (is_digit b) ⊎ (IsTrue (signs_start b) ⊎ (b ≡ 34)))

pub spells_first : (k : TokenKind) (s : Text) → Spells k s → (b : ℕ) × (r : Text) × (s ≡ b ∷ r) × Starts b
spells_first (t.Name n) [] h = absurd h.1
spells_first (t.Name n) (b ∷ r) h = (b, r, refl, inl h.1.0)
spells_first (t.Int n) [] h = absurd h.0
spells_first (t.Int n) (b ∷ r) h = (b, r, refl, inr (inl h.0.0))
spells_first (t.Text bytes) s h = (34, _, h.whole, inr (inr (inr refl)))
spells_first (t.Word k) [] h = let P : Text → Type 0 = IsWord in absurd (subst P (sym h) (keyword_is_word k))
spells_first (t.Word k) (b ∷ r) h =
    let P : Text → Type 0 = IsWord in
    let w : IsWord (b ∷ r) = subst P (sym h) (keyword_is_word k) in (b, r, refl, inl w.0)
spells_first (t.Sign g) s h = let f = sign_first g in (f.0, f.1, h ∙ f.2, inr (inr (inl f.3)))
spells_first t.End s h = absurd h

sign_no_letter : (g : Sign) (b : ℕ) (r : Text) → IsTrue (begins_word b) → b ∷ r ≡ sign_text g → ⊥
sign_no_letter g b r l h =
    let f = sign_first g in
    let P : ℕ → Type 0 = λ x. IsTrue (begins_word x) in
    letter_no_sign f.0 (subst P (first_is b f.0 r f.1 (h ∙ f.2)) l) f.3

letter_no_quote : (b : ℕ) (r bytes : Text) → IsTrue (begins_word b) → IsQuoted bytes (b ∷ r) → ⊥
letter_no_quote b r bytes l h = let P : ℕ → Type 0 = λ x. IsTrue (begins_word x) in quote_no_letter
    (subst P (first_is b 34 r _ h.whole) l)

-- one spelling has one kind
kind_unique : (k k' : TokenKind) (s : Text) → Spells k s → Spells k' s → k ≡ k'
kind_unique k k' [] h g = let f = spells_first k [] h in let no_way : [] ≡ f.0 ∷ f.1 = f.2 in cc
kind_unique (t.Int n) k' (b ∷ r) h g = ap (λ x. t.Int x) h.1 ∙ sym (spells_number k' b r h.0.0 g).0
kind_unique (t.Sign s) k' (b ∷ r) h g =
    let f = sign_first s in
    let P : ℕ → Type 0 = λ x. IsTrue (signs_start x) in
    let q = spells_sign k' b r (subst P (sym (first_is b f.0 r f.1 (h ∙ f.2))) f.3) g in
    ap (λ x. t.Sign x) (sign_unique s q.0 (sym h ∙ q.2)) ∙ sym q.1
kind_unique (t.Name n) (t.Name m) (b ∷ r) h g = ap (λ x. t.Name x) (h.0 ∙ sym g.0)
kind_unique (t.Name n) (t.Word k) (b ∷ r) h g = absurd (h.2 k g)
kind_unique (t.Name n) (t.Int m) (b ∷ r) h g = absurd (letter_no_digit b h.1.0 g.0.0)
kind_unique (t.Name n) (t.Sign s) (b ∷ r) h g = absurd (sign_no_letter s b r h.1.0 g)
kind_unique (t.Word k) (t.Name m) (b ∷ r) h g = absurd (g.2 k h)
kind_unique (t.Word k) (t.Word k') (b ∷ r) h g = ap (λ x. t.Word x) (keyword_unique k k' (sym h ∙ g))
kind_unique (t.Word k) (t.Int m) (b ∷ r) h g = (spells_number (t.Word k) b r g.0.0 h).0 ∙ sym (ap (λ x. t.Int x) g.1)
kind_unique (t.Word k) (t.Sign s) (b ∷ r) h g =
    let P : Text → Type 0 = IsWord in
    let w : IsWord (b ∷ r) = subst P (sym h) (keyword_is_word k) in absurd (sign_no_letter s b r w.0 g)
kind_unique (t.Text x) k' (b ∷ r) h g =
    let P : ℕ → Type 0 = λ w. Spells k' (w ∷ r) in
    let Q : ℕ → Type 0 = λ w. IsQuoted x (w ∷ r) in
    let quote : b ≡ 34 = first_is b 34 r _ h.whole in
    let q = spells_quote k' r (subst P quote g) in
    ap (λ w. t.Text w) (quoted_value x q.0 (34 ∷ r) (subst Q quote h) q.2) ∙ sym q.1
kind_unique t.End k' (b ∷ r) h g = absurd h
kind_unique (t.Name n) (t.Text x) (b ∷ r) h g = absurd (letter_no_quote b r x h.1.0 g)
kind_unique (t.Word k) (t.Text x) (b ∷ r) h g =
    let P : Text → Type 0 = IsWord in
    let w : IsWord (b ∷ r) = subst P (sym h) (keyword_is_word k) in absurd (letter_no_quote b r x w.0 g)
kind_unique (t.Name n) t.End (b ∷ r) h g = absurd g
kind_unique (t.Word k) t.End (b ∷ r) h g = absurd g

-- ---- the longest

pub longest_word : (s after : Text) → IsWord s → Stops goes_on after → IsLongest s after
longest_word [] after w n = absurd w
longest_word (b ∷ s) after w n = λ k more r e h. no_longer goes_on (b ∷ s) more after r n e
    (spells_word k b (s ++ more) w.0 h)

pub longest_number : (s after : Text) → IsNumber s → Stops is_digit after → IsLongest s after
longest_number [] after w n = absurd w
longest_number (b ∷ s) after w n = λ k more r e h. no_longer is_digit (b ∷ s) more after r n e
    (spells_number k b (s ++ more) w.0 h).1

longest_sign : (g : Sign) (text after : Text) → SignThen text g after → IsLongest (sign_text g) (chars after)
longest_sign g text after s = λ k more r e h.
    let f = sign_first g in
    let P : Text → Type 0 = λ x. Spells k (x ++ more) in
    let q = spells_sign k f.0 (f.1 ++ more) f.3 (subst P f.2 h) in
    s.longest q.0 more r e (ap (λ x. x ++ more) f.2 ∙ q.2)

pub longest_quoted : (bytes s after : Text) → IsQuoted bytes s → IsLongest s after
longest_quoted bytes [] after h = λ k more r e g. absurd (let no_way : [] ≡ 34 ∷ _ = h.whole in cc)
longest_quoted bytes (b ∷ s) after h = λ k more r e g.
    let quote : b ≡ 34 = first_is b 34 s _ h.whole in
    let P : ℕ → Type 0 = λ w. Spells k (w ∷ (s ++ more)) in
    let Q : ℕ → Type 0 = λ w. IsQuoted bytes (w ∷ s) in
    let q = spells_quote k (s ++ more) (subst P quote g) in
    quoted_longest bytes q.0 (34 ∷ s) more (subst Q quote h) q.2

-- a span that begins with a character of the class is not empty
span_some : (c : ℕ → Bool) (s after rest : Text) (b : ℕ) → s ++ after ≡ b ∷ rest → c b ≡ true → Stops c after
    → (s' : Text) × (s ≡ b ∷ s')
span_some c [] after rest b e h n =
    let P : Text → Type 0 = Stops c in
    let stops : c b ≡ false = subst P e n in absurd (not_both (c b) h stops)
span_some c (x ∷ s) after rest b e h n = let heads : x
    ≡ b = first_is x b (s ++ after) rest e in (s, ap (λ y. y ∷ s) heads)

span_first : (c : ℕ → Bool) (text bytes after rest : Text) (b : ℕ) (p : Spans c text bytes after)
    → Front text (b ∷ []) rest → c b ≡ true → (s' : Text) × (p.taken ≡ b ∷ s')
span_first c text bytes after rest b p f h = span_some c p.taken (chars after) (chars rest) b
    (sym p.front.characters ∙ f.characters) h p.stops

pub span_word : (text bytes after rest : Text) (b : ℕ) (p : Spans goes_on text bytes after) → Front text (b ∷ []) rest
    → begins_word b ≡ true → IsWord p.taken
span_word text bytes after rest b p f h =
    let q = span_first goes_on text bytes after rest b p f (letter_is_word b h) in
    let P : Text → Type 0 = IsWord in
    let E : Text → Type 0 = Each goes_on in
    subst P (sym q.1) (h, (subst E q.1 p.each).1)

pub span_number : (text bytes after rest : Text) (b : ℕ) (p : Spans is_digit text bytes after)
    → Front text (b ∷ []) rest → is_digit b ≡ true → IsNumber p.taken
span_number text bytes after rest b p f h =
    let q = span_first is_digit text bytes after rest b p f h in
    let P : Text → Type 0 = IsNumber in
    let E : Text → Type 0 = Each is_digit in
    subst P (sym q.1) (subst E q.1 p.each)

-- ---- the pieces that the scanner finds

no_comment_at : (text rest : Text) (b : ℕ) → text ≡ b ∷ rest → (b ≡ 47 → ⊥) → NoComment text
no_comment_at text rest b e n = λ c h. n (first_is b 47 rest (47 ∷ c) (sym e ∙ h))

pub letter_comment : (text rest : Text) (b : ℕ) → Front text (b ∷ []) rest → begins_word b ≡ true
    → NoComment (chars text)
letter_comment text rest b e h = no_comment_at (chars text) (chars rest) b e.characters
    (λ w. let P : ℕ → Type 0 = λ x. IsTrue (begins_word x) in slash_no_letter (subst P w h))

pub digit_comment : (text rest : Text) (b : ℕ) → Front text (b ∷ []) rest → is_digit b ≡ true → NoComment (chars text)
digit_comment text rest b e h = no_comment_at (chars text) (chars rest) b e.characters
    (λ w. let P : ℕ → Type 0 = λ x. IsTrue (is_digit x) in slash_no_digit (subst P w h))

pub quote_comment : (text rest : Text) (b : ℕ) → Front text (b ∷ []) rest → b ≡ 34 → NoComment (chars text)
quote_comment text rest b e q = no_comment_at (chars text) (chars rest) b e.characters (λ w. absurd (omega arith))

pub fault_here : (text : Text) (r : Rule) → IsFault r [] (chars text) → FaultAfter text r 0
fault_here text r f = record { before = []; after = text; front = front_nil text; ahead_is = refl; is = f }

pub cuts_white : (text rest : Text) (b : ℕ) → Front text (b ∷ []) rest → is_white b ≡ true → Cuts text None rest
cuts_white text rest b e h = record { piece = White b; front = e; is = h; kind_is = refl }

cuts_token : (text s after : Text) (k : TokenKind) → Front text s after → Spells k s → IsInRange k s
    → IsLongest s (chars after) → NoComment (chars text) → Cuts text (Some k) after
cuts_token text s after k e h r l n =
    let P : Text → Type 0 = NoComment in
    record {
      piece = Tok k s;
      front = e;
      is =
          record { spells = h; longest = l; no_comment = subst P e.characters n; in_range = r };
      kind_is = refl;
    }

pub cuts_word : (text bytes after rest : Text) (b : ℕ) (k : TokenKind) → Spans goes_on text bytes after
    → Front text (b ∷ []) rest → begins_word b ≡ true →
    ((cs : Text) → bytes ≡ encode_utf8_all cs → IsWord cs → Spells k cs × IsInRange k cs) → Cuts text (Some k) after
cuts_word text bytes after rest b k p e h w =
    let is : IsWord p.taken = span_word text bytes after rest b p e h in
    let r = w p.taken p.bytes_are is in
    cuts_token text p.taken after k p.front r.0 r.1 (longest_word p.taken (chars after) is p.stops)
    (letter_comment text rest b e h)

pub cuts_number : (text bytes after rest : Text) (b : ℕ) (n : ℤ) → Spans is_digit text bytes after
    → Front text (b ∷ []) rest → is_digit b ≡ true → n ≡ pos (digits_value bytes) → digits_value bytes < 2 ^ 63
    → Cuts text (Some (t.Int n)) after
cuts_number text bytes after rest b n p e h v r =
    let is : IsNumber p.taken = span_number text bytes after rest b p e h in
    let same : digits_value bytes ≡ digits_value p.taken = ap digits_value (digits_are text bytes after p) in
    let small : digits_value p.taken < 2 ^ 63 = omega (arith, r, same) in
    cuts_token text p.taken after (t.Int n) p.front (is, v ∙ ap (λ x. pos x) same) small
    (longest_number p.taken (chars after) is p.stops) (digit_comment text rest b e h)

pub too_large : (text bytes after rest : Text) (b : ℕ) → Spans is_digit text bytes after → Front text (b ∷ []) rest
    → is_digit b ≡ true → 2 ^ 63 ≤ digits_value bytes → IsTooLarge (chars text)
too_large text bytes after rest b p e h v =
    let same : digits_value bytes ≡ digits_value p.taken = ap digits_value (digits_are text bytes after p) in
    record {
      digits = p.taken;
      after = chars after;
      parts = p.front.characters;
      number =
          span_number text bytes after rest b p e h;
      stops = p.stops;
      large = omega (arith, v, same);
    }

pub cuts_text : (text rest after bytes : Text) (b : ℕ) → Front text (b ∷ []) rest → b ≡ 34
    → ValueThen text bytes after → Cuts text (Some (t.Text bytes)) after
cuts_text text rest after bytes b e q v =
    let is : IsQuoted bytes (34 ∷ (parts_text v.parts ++ 34 ∷ [])) =
    record { parts = v.parts; whole = refl; are = v.are; known = v.known; value_is = v.value_is } in
    cuts_token text (34 ∷ (parts_text v.parts ++ 34 ∷ [])) after (t.Text bytes) v.front is tt
    (longest_quoted bytes _ (chars after) is) (quote_comment text rest b e q)

pub cuts_comment : (text after : Text) → CommentThen text after → Cuts text None after
cuts_comment text after c = record { piece = Comment c.line; front = c.front; is = (c.each, c.stops); kind_is = refl }

pub cuts_sign : (text after : Text) (g : Sign) → SignThen text g after → NoComment (chars text)
    → Cuts text (Some (t.Sign g)) after
cuts_sign text after g s n = cuts_token text (sign_text g) after (t.Sign g) s.front refl tt
    (longest_sign g text after s) n

pub nothing_begins : (text rest : Text) (b : ℕ) → Front text (b ∷ []) rest → is_white b ≡ false
    → begins_word b ≡ false → is_digit b ≡ false → b ≢ 34 → NoComment (chars text) → NoSign (chars text)
    → IsNothing (chars text)
nothing_begins text rest b e w l d q n g =
    let P : Text → Type 0 = IsNothing in
    let N : Text → Type 0 = NoComment in
    let G : Text → Type 0 = NoSign in
    subst P (sym e.characters) (w, q, subst N e.characters n, no_spelling (chars rest) (subst G e.characters g))
  where
    by_start : (k : TokenKind) (rest s after r : Text) (c : ℕ) → NoSign (b ∷ rest) → b ∷ rest ≡ s ++ after → s ≡ c ∷ r
        → Spells k s → b ≡ c → Starts c → ⊥
    by_start k rest s after r c g e f h i (inl y) = let Q : ℕ → Type 0 =
        λ x. IsTrue (begins_word x) in not_both (begins_word b) (subst Q (sym i) y) l
    by_start k rest s after r c g e f h i (inr (inl y)) = let Q : ℕ → Type 0 =
        λ x. IsTrue (is_digit x) in not_both (is_digit b) (subst Q (sym i) y) d
    by_start k rest s after r c g e f h i (inr (inr (inl y))) =
        let Q : Text → Type 0 = Spells k in
        let z = spells_sign k c r y (subst Q f h) in
        g z.0 after (e ∙ ap (λ x. x ++ after) (f ∙ z.2))
    by_start k rest s after r c g e f h i (inr (inr (inr y))) = q (i ∙ y)

    no_spelling : (rest : Text) → NoSign (b ∷ rest) → (k : TokenKind) (s after : Text) → b ∷ rest ≡ s ++ after
        → Spells k s → ⊥
    no_spelling rest g k s after e h =
        let f = spells_first k s h in
        by_start k rest s after f.1 f.0 g e f.2 h (first_is b f.0 rest (f.1 ++ after) (e ∙ ap (λ x. x ++ after) f.2))
        f.3

-- ---- one cutting

-- two fronts of one text: one begins with the other
abbrev Either : Text → Text → Text → Text → Type 0
Either a b x y = (more : Text) × (((b ≡ a ++ more) × (x ≡ more ++ y)) ⊎ ((a ≡ b ++ more) × (y ≡ more ++ x)))

longer : (u : ℕ) (a b x y : Text) → Either a b x y → Either (u ∷ a) (u ∷ b) x y
longer u a b x y e = elim e.1 as (λ _. Either (u ∷ a) (u ∷ b) x y)
    [ inl p ↦ (e.0, inl (ap (λ l. u ∷ l) p.0, p.1)) | inr p ↦ (e.0, inr (ap (λ l. u ∷ l) p.0, p.1)) ]

compare : (a b x y : Text) → a ++ x ≡ b ++ y → Either a b x y
compare [] b x y e = (b, inl (refl, e))
compare (u ∷ a) [] x y e = (u ∷ a, inr (refl, sym e))
compare (u ∷ a) (v ∷ b) x y e =
    let heads : u ≡ v = cc in
    let tails : a ++ x ≡ b ++ y = cc in
    let P : ℕ → Type 0 = λ w. Either (u ∷ a) (w ∷ b) x y in
    subst P heads (longer u a b x y (compare a b x y tails))

-- the longer of two longest spellings is no longer
same_front : (s s' x y : Text) (k k' : TokenKind) → Spells k s → Spells k' s' → IsLongest s x → IsLongest s' y
    → s ++ x ≡ s' ++ y → (s ≡ s') × (x ≡ y)
same_front s s' x y k k' h h' l l' e =
    let c = compare s s' x y e in
    let P : Text → Type 0 = Spells k' in
    let Q : Text → Type 0 = Spells k in
    elim c.1 as (λ _. (s ≡ s') × (x ≡ y)) [
      | inl p ↦ let none : c.0 ≡ [] = l k' c.0 y p.1 (subst P p.0 h') in
          (sym (append-nil s) ∙ ap (λ m. s ++ m) (sym none) ∙ sym p.0, p.1 ∙ ap (λ m. m ++ y) none)
      | inr p ↦ let none : c.0 ≡ [] = l' k c.0 x p.1 (subst Q p.0 h) in
          (p.0 ∙ ap (λ m. s' ++ m) none ∙ append-nil s', ap (λ m. m ++ x) (sym none) ∙ sym p.1)
    ]

white_not_first : (b : ℕ) → IsTrue (is_white b) → Starts b → ⊥
white_not_first b w (inl h) = white_no_letter b w h
white_not_first b w (inr (inl h)) = white_no_digit b w h
white_not_first b w (inr (inr (inl h))) = white_no_sign b w h
white_not_first b w (inr (inr (inr h))) = white_no_quote b w h

-- white space begins no token
no_token : (k : TokenKind) (s after rest : Text) (b : ℕ) → Spells k s → IsTrue (is_white b) → b ∷ rest ≡ s ++ after → ⊥
no_token k s after rest b h w e =
    let f = spells_first k s h in
    let all : b ∷ rest ≡ f.0 ∷ (f.1 ++ after) = e ∙ ap (λ l. l ++ after) f.2 in
    let P : ℕ → Type 0 = λ x. IsTrue (is_white x)
    in white_not_first f.0 (subst P (first_is b f.0 rest (f.1 ++ after) all) w) f.3

-- two spans of one class
spans_same : (c : ℕ → Bool) (a b x y : Text) → Each c a → Each c b → Stops c x → Stops c y → a ++ x ≡ b ++ y
    → (a ≡ b) × (x ≡ y)
spans_same c [] [] x y m n p q e = (refl, e)
spans_same c [] (v ∷ b) x y m n p q e = let P : Text → Type 0 = Stops c in let stops : c v
    ≡ false = subst P e p in absurd (not_both (c v) n.0 stops)
spans_same c (u ∷ a) [] x y m n p q e = let P : Text → Type 0 = Stops c in let stops : c u
    ≡ false = subst P (sym e) q in absurd (not_both (c u) m.0 stops)
spans_same c (u ∷ a) (v ∷ b) x y m n p q e =
    let heads : u ≡ v = cc in
    let tails : a ++ x ≡ b ++ y = cc in
    let r = spans_same c a b x y m.1 n.1 p q tails in
    (ap (λ w. w ∷ a) heads ∙ ap (λ l. v ∷ l) r.0, r.1)

slash_no_white : IsTrue (is_white 47) → ⊥
slash_no_white h = cc

-- what begins a text is one piece
pub piece_unique : (p q : TextPiece) (x y : Text) → IsPiece p x → IsPiece q y → piece_text p ++ x ≡ piece_text q ++ y
    → (p ≡ q) × (x ≡ y)
piece_unique (White b) (White d) x y m n e = let heads : b ≡ d = cc in (ap (λ w. White w) heads, cc)
piece_unique (White b) (Comment d) x y m n e = let P : ℕ → Type 0 =
    λ w. IsTrue (is_white w) in absurd (slash_no_white (subst P (first_is b 47 x _ e) m))
piece_unique (White b) (Tok k s) x y m n e = absurd (no_token k s y x b n.spells m e)
piece_unique (Comment c) (White d) x y m n e = let P : ℕ → Type 0 =
    λ w. IsTrue (is_white w) in absurd (slash_no_white (subst P (first_is d 47 y _ (sym e)) n))
piece_unique (Comment c) (Comment d) x y m n e =
    let tails : c ++ x ≡ d ++ y = ap (drop 2) e in
    let r = spans_same in_line c d x y m.0 n.0 m.1 n.1 tails in
    (ap (λ w. Comment w) r.0, r.1)
piece_unique (Comment c) (Tok k s) x y m n e = absurd (n.no_comment (c ++ x) (sym e))
piece_unique (Tok k s) (White d) x y m n e = absurd (no_token k s x y d m.spells n (sym e))
piece_unique (Tok k s) (Comment d) x y m n e = absurd (m.no_comment (d ++ y) e)
piece_unique (Tok k s) (Tok k' s') x y m n e =
    let r = same_front s s' x y k k' m.spells n.spells m.longest n.longest e in
    let P : Text → Type 0 = Spells k' in
    (ap (λ w. Tok w s) (kind_unique k k' s m.spells (subst P (sym r.0) n.spells)) ∙ ap (λ w. Tok k' w) r.0, r.1)

-- where nothing begins, no piece does
pub nothing_no_piece : (p : TextPiece) (rest x : Text) → IsNothing rest → IsPiece p x → rest ≡ piece_text p ++ x → ⊥
nothing_no_piece p [] x f m e = f
nothing_no_piece (White b) (d ∷ rest) x f m e =
    let heads : b ≡ d = sym (first_is d b rest x e) in
    let P : ℕ → Type 0 = λ w. IsTrue (is_white w) in not_both (is_white d) (subst P heads m) f.0
nothing_no_piece (Comment c) (d ∷ rest) x f m e = f.2 (c ++ x) e
nothing_no_piece (Tok k s) (d ∷ rest) x f m e = f.3 k s x e m.spells

-- a number that is too large is no piece
large_int : (p : TextPiece) (s after x : Text) → IsNumber s → Stops is_digit after → 2 ^ 63 ≤ digits_value s
    → IsPiece p x → s ++ after ≡ piece_text p ++ x → ⊥
large_int p [] after x n stop v m e = n
large_int (White b) (d ∷ s) after x n stop v m e =
    let P : ℕ → Type 0 = λ w. IsTrue (is_digit w) in white_no_digit b m (subst P (first_is d b _ _ e) n.0)
large_int (Comment c) (d ∷ s) after x n stop v m e =
    let P : ℕ → Type 0 = λ w. IsTrue (is_digit w) in slash_no_digit (subst P (first_is d 47 _ _ e) n.0)
large_int (Tok k s') (d ∷ s) after x n stop v m e =
    let number : Spells (t.Int (pos (digits_value (d ∷ s)))) (d ∷ s) = (n, refl) in
    let r = same_front (d ∷ s) s' after x (t.Int (pos (digits_value (d ∷ s)))) k number m.spells
    (longest_number (d ∷ s) after n stop) m.longest e in
    let P : Text → Type 0 = Spells k in
    let is : k ≡ t.Int (pos (digits_value (d ∷ s))) = (spells_number k d s n.0 (subst P (sym r.0) m.spells)).0 in
    let Q : TokenKind → Type 0 = λ w. IsInRange w s' in
    let small : digits_value s' < 2 ^ 63 = subst Q is m.in_range in
    let same : digits_value (d ∷ s) ≡ digits_value s' = ap digits_value r.0 in
    omega (arith, small, v, same)

pub large_no_piece : (p : TextPiece) (rest x : Text) → IsTooLarge rest → IsPiece p x → rest ≡ piece_text p ++ x → ⊥
large_no_piece p rest x f m e = large_int p f.digits f.after x f.number f.stops f.large m (sym f.parts ∙ e)

-- what begins with a quote is a text, if it is a piece
pub quote_piece : (p : TextPiece) (rest x : Text) → IsPiece p x → 34 ∷ rest ≡ piece_text p ++ x
    → (bytes s : Text) × (p ≡ Tok (t.Text bytes) (34 ∷ s)) × IsQuoted bytes (34 ∷ s)
quote_piece (White b) rest x m e = absurd (white_no_quote b m (sym (first_is 34 b rest x e)))
quote_piece (Comment c) rest x m e =
    absurd (let slash : 34 ≡ 47 = first_is 34 47 rest (47 ∷ (c ++ x)) e in omega (arith, slash))
quote_piece (Tok k s) rest x m e =
    let f = spells_first k s m.spells in
    let quote : 34 ≡ f.0 = first_is 34 f.0 rest (f.1 ++ x) (e ∙ ap (λ w. w ++ x) f.2) in
    let all : s ≡ 34 ∷ f.1 = f.2 ∙ ap (λ w. w ∷ f.1) (sym quote) in
    let P : Text → Type 0 = Spells k in
    let q = spells_quote k f.1 (subst P all m.spells) in
    (q.0, f.1, ap (λ w. Tok w s) q.1 ∙ ap (λ w. Tok (t.Text q.0) w) all, q.2)
