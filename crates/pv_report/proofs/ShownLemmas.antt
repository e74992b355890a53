-- The text that `serde_json` gives for data that need no escape and have no float.
use Rattle.std.proofs.Common.{◌≡◌, ℕ, ◌==◌, List, [], ◌∷◌, ◌++◌, Bool, true, false, codes, nat_lt, refl, sym, ap, ap₂, ◌∙◌, append_assoc, append-nil, arith}
use Rattle.std.specs.Prelude.{◌||◌}
use Rattle.std.proofs.lemmas.Bool.{and_parts}
use Rattle.std.proofs.lemmas.Bool.Decides.{nat_tests}
use Rattle.json.specs.Print as print
use Rattle.serde_json.specs.Data.{Data, null, boolean, number, string, array, object, Items, no_items, item, Members, no_members, member}
use Rattle.serde_json.specs.Written.{has_float, items_have_float, members_have_float, compact_text, items_text, members_text}
use Rattle.pv_report.specs.LineJson as json
use Rattle.pv_report.specs.Shown.{is_plain_byte, is_plain, IsPlain, ArePlain, MembersArePlain, shown, each_shown, members_shown}

-- A plain byte stands for itself.
escape_byte-plain : (b : ℕ) → is_plain_byte b ≡ true → print.escape_byte b ≡ b ∷ []
unfolding print.escape_byte
escape_byte-plain b plain =
    let quote : (b == 34) ≡ false = grind (arith, nat_tests, plain) in
    let slash : (b == 92) ≡ false = grind (arith, nat_tests, plain) in
    let back : (b == 8) ≡ false = grind (arith, nat_tests, plain) in
    let feed : (b == 12) ≡ false = grind (arith, nat_tests, plain) in
    let line : (b == 10) ≡ false = grind (arith, nat_tests, plain) in
    let return : (b == 13) ≡ false = grind (arith, nat_tests, plain) in
    let tab : (b == 9) ≡ false = grind (arith, nat_tests, plain) in
    let control : nat_lt b 32 ≡ false = grind (arith, nat_tests, plain) in
    rw (quote, slash, back, feed, line, return, tab, control)

-- A plain text stands for itself.
escape-plain : (text : List ℕ) → is_plain text ≡ true → print.escape text ≡ text
escape-plain [] plain = refl
escape-plain (b ∷ text) plain =
    let parts = and_parts (is_plain_byte b) (is_plain text) plain in
    ap₂ (λ (xs ys : List ℕ). xs ++ ys) (escape_byte-plain b parts.0) (escape-plain text parts.1)

quoted-plain : (text : List ℕ) → is_plain text ≡ true → print.quoted text ≡ json.quoted text
quoted-plain text plain = ap (λ (s : List ℕ). 34 ∷ (s ++ 34 ∷ [])) (escape-plain text plain)

-- ---- the text

-- the texts behind the first, each with its comma
abbrev others_text : List (List ℕ) → List ℕ
others_text [] = []
others_text (text ∷ texts) = codes "," ++ (text ++ others_text texts)

parted-cons : (text : List ℕ) (texts : List (List ℕ)) → json.parted (text ∷ texts) ≡ text ++ others_text texts
parted-cons text [] = sym (append-nil text)
parted-cons text (other ∷ texts) = ap (λ (s : List ℕ). text ++ (codes "," ++ s)) (parted-cons other texts)

ended : (x : ℕ) (text : List ℕ) (texts : List (List ℕ)) → json.parted (text ∷ texts) ++ (x ∷ []) ≡ text ++ (others_text texts ++ (x ∷ []))
ended x text texts = ap (λ (s : List ℕ). s ++ (x ∷ [])) (parted-cons text texts) ∙ append_assoc text (others_text texts) (x ∷ [])

member_text : (k : List ℕ) (d : Data) (old new : List ℕ) → is_plain k ≡ true → compact_text d ≡ shown d → old ≡ new
    → print.quoted k ++ 58 ∷ (compact_text d ++ old) ≡ json.member k (shown d) ++ new
member_text k d old new key value rest =
    ap₂ (λ (xs ys : List ℕ). xs ++ 58 ∷ ys) (quoted-plain k key) (ap₂ (λ (xs ys : List ℕ). xs ++ ys) value rest)
    ∙ sym (append_assoc (json.quoted k) (58 ∷ shown d) new)

mutual
  pub compact_text-plain : (d : Data) → IsPlain d → compact_text d ≡ shown d
  compact_text-plain null plain = refl
  compact_text-plain (boolean true) plain = refl
  compact_text-plain (boolean false) plain = refl
  compact_text-plain (number n) plain = refl
  compact_text-plain (string s) plain = quoted-plain s plain
  compact_text-plain (array ds) plain = ap (λ (s : List ℕ). 91 ∷ s) (items_text-first ds plain)
  compact_text-plain (object ms) plain = ap (λ (s : List ℕ). 123 ∷ s) (members_text-first ms plain)

  items_text-first : (ds : Items) → ArePlain ds → items_text false ds ≡ json.parted (each_shown ds) ++ codes "]"
  items_text-first no_items plain = refl
  items_text-first (item d ds) plain =
      ap₂ (λ (xs ys : List ℕ). xs ++ ys) (compact_text-plain d plain.0) (items_text-later ds plain.1) ∙ sym (ended 93 (shown d) (each_shown ds))

  items_text-later : (ds : Items) → ArePlain ds → items_text true ds ≡ others_text (each_shown ds) ++ codes "]"
  items_text-later no_items plain = refl
  items_text-later (item d ds) plain =
      ap (λ (s : List ℕ). 44 ∷ s)
      (ap₂ (λ (xs ys : List ℕ). xs ++ ys) (compact_text-plain d plain.0) (items_text-later ds plain.1)
      ∙ sym (append_assoc (shown d) (others_text (each_shown ds)) (codes "]")))

  members_text-first : (ms : Members) → MembersArePlain ms → members_text false ms ≡ json.parted (members_shown ms) ++ codes "}"
  members_text-first no_members plain = refl
  members_text-first (member k d ms) plain =
      member_text k d _ _ plain.0 (compact_text-plain d plain.1) (members_text-later ms plain.2) ∙ sym (ended 125 (json.member k (shown d)) (members_shown ms))

  members_text-later : (ms : Members) → MembersArePlain ms → members_text true ms ≡ others_text (members_shown ms) ++ codes "}"
  members_text-later no_members plain = refl
  members_text-later (member k d ms) plain =
      ap (λ (s : List ℕ). 44 ∷ s)
      (member_text k d _ _ plain.0 (compact_text-plain d plain.1) (members_text-later ms plain.2)
      ∙ sym (append_assoc (json.member k (shown d)) (others_text (members_shown ms)) (codes "}")))

-- ---- no float

mutual
  pub has_float-plain : (d : Data) → IsPlain d → has_float d ≡ false
  has_float-plain null plain = refl
  has_float-plain (boolean b) plain = refl
  has_float-plain (number n) plain = plain
  has_float-plain (string s) plain = refl
  has_float-plain (array ds) plain = items_have_float-plain ds plain
  has_float-plain (object ms) plain = members_have_float-plain ms plain

  items_have_float-plain : (ds : Items) → ArePlain ds → items_have_float ds ≡ false
  items_have_float-plain no_items plain = refl
  items_have_float-plain (item d ds) plain = ap₂ (λ (x y : Bool). x || y) (has_float-plain d plain.0) (items_have_float-plain ds plain.1)

  members_have_float-plain : (ms : Members) → MembersArePlain ms → members_have_float ms ≡ false
  members_have_float-plain no_members plain = refl
  members_have_float-plain (member k d ms) plain = ap₂ (λ (x y : Bool). x || y) (has_float-plain d plain.1) (members_have_float-plain ms plain.2)
