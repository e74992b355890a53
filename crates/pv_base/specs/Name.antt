-- Bytes of texts, and the names of items.
use Rattle.std.specs.Prelude.{ℕ, Bool, false, not, ◌&&◌, ◌||◌, ◌==◌, nat_le, List, [], ◌∷◌, length}
use Rattle.std.specs.List.{list_any, list_all}
use Rattle.std.specs.Str.{bytes_eq}
use Rattle.pv_base.specs.declared.limits.TheConstants.{MAX_NAME}
use Rattle.pv_base.specs.declared.naming.TheConstants.{KEYWORDS}

-- Whether the text is one of the words of the program language, none of which names an item.
unfoldable pub is_keyword : List ℕ → Bool
is_keyword text = list_any (λ word. bytes_eq text word.now) KEYWORDS

-- A space or a tab.
abbrev pub is_blank : ℕ → Bool
is_blank b = b == 32 || b == 9

-- An ASCII lower-case letter.
abbrev pub is_lower : ℕ → Bool
is_lower b = nat_le 97 b && nat_le b 122

-- An ASCII digit.
abbrev pub is_digit : ℕ → Bool
is_digit b = nat_le 48 b && nat_le b 57

-- Lower-case letters, digits and `_` may follow the first letter of a name.
abbrev pub continues_name : ℕ → Bool
continues_name b = is_lower b || is_digit b || b == 95

-- Whether the text is a lower-case letter and then bytes that may follow it.
unfoldable pub is_spelled_as_name : List ℕ → Bool
is_spelled_as_name [] = false
is_spelled_as_name (b ∷ bs) = is_lower b && list_all continues_name bs

-- A name is 1 to 16 bytes, a lower-case letter and then lower-case letters, digits and `_`, and no keyword.
unfoldable pub is_name : List ℕ → Bool
is_name text = nat_le (length text) MAX_NAME && is_spelled_as_name text && not (is_keyword text)
