-- Programs as plain data.
use Rattle.std.specs.Prelude.{ℕ, ℤ}

-- the operators of two sides
pub data Op : Type 0 where
  or : Op
  and : Op
  equal : Op
  unequal : Op
  less : Op
  at_most : Op
  greater : Op
  at_least : Op
  plus : Op
  sub : Op
  times : Op
  over : Op
  rest : Op
  lesser : Op
  larger : Op

-- an expression over items, which go by their numbers
pub data Expr : Type 0 where
  number : ℤ → Expr
  item : ℕ → Expr
  minus : Expr → Expr
  negation : Expr → Expr
  two : (op : Op) (left right : Expr) → Expr

-- A program is its first statement and the program after it.
pub data Program : Type 0 where
  end : Program
  assign : (item : ℕ) (value : Expr) (next : Program) → Program
  require : (test : Expr) (next : Program) → Program
  -- the item's value has to be certain when the program runs: nothing is left that it depends on
  certain : (item : ℕ) (next : Program) → Program
  return : (value : Expr) (next : Program) → Program
  when : (test : Expr) (body next : Program) → Program
  when_else : (test : Expr) (body other next : Program) → Program
