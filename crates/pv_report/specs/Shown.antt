-- The data of JSON whose text needs no escape and has no float, and that text.
use Rattle.std.specs.Prelude.{◌≡◌, ℕ, nat_le, nat_lt, ◌==◌, not, ◌&&◌, Bool, true, false, List, [], ◌∷◌, ⊤, codes}
use Rattle.std.specs.List.{list_all}
use Rattle.serde_json.specs.Data.{Data, null, boolean, number, string, array, object, Items, no_items, item, Members, no_members, member}
use Rattle.serde_json.specs.Find.{is_float}
use Rattle.serde_json.specs.Written.{number_text}
use Rattle.pv_report.specs.LineJson as json

-- The byte is one from `+` to `z`, and no backslash, so it needs no escape. Names, transactions and numbers have no others.
abbrev pub is_plain_byte : ℕ → Bool
is_plain_byte b = nat_le 43 b && nat_lt b 123 && not (b == 92)

-- Each byte is.
abbrev pub is_plain : List ℕ → Bool
is_plain text = list_all is_plain_byte text

abbrev mutual
  -- No text in it needs an escape, and no number in it is a float.
  pub IsPlain : Data → Type 0
  IsPlain null = ⊤
  IsPlain (boolean b) = ⊤
  IsPlain (number n) = is_float n ≡ false
  IsPlain (string s) = is_plain s ≡ true
  IsPlain (array ds) = ArePlain ds
  IsPlain (object ms) = MembersArePlain ms

  pub ArePlain : Items → Type 0
  ArePlain no_items = ⊤
  ArePlain (item d ds) = IsPlain d × ArePlain ds

  pub MembersArePlain : Members → Type 0
  MembersArePlain no_members = ⊤
  MembersArePlain (member k d ms) = (is_plain k ≡ true) × IsPlain d × MembersArePlain ms

-- its text
abbrev mutual
  pub shown : Data → List ℕ
  shown null = codes "null"
  shown (boolean true) = codes "true"
  shown (boolean false) = codes "false"
  shown (number n) = number_text n
  shown (string s) = json.quoted s
  shown (array ds) = json.array (each_shown ds)
  shown (object ms) = json.object (members_shown ms)

  pub each_shown : Items → List (List ℕ)
  each_shown no_items = []
  each_shown (item d ds) = shown d ∷ each_shown ds

  pub members_shown : Members → List (List ℕ)
  members_shown no_members = []
  members_shown (member k d ms) = json.member k (shown d) ∷ members_shown ms
