-- A result is one value or one error, and never both.
use Rattle.std.proofs.Common.{◌≡◌, Result, Ok, Err}

pub one_ok : {T F : Type 0} (result : Result T F) (a b : T) → result ≡ Ok a → result ≡ Ok b → a ≡ b
one_ok result a b p q = cc

pub one_err : {T F : Type 0} (result : Result T F) (a b : F) → result ≡ Err a → result ≡ Err b → a ≡ b
one_err result a b p q = cc

pub ok_or_err : {T F : Type 0} (result : Result T F) (value : T) (error : F) → result ≡ Ok value → result ≡ Err error → ⊥
ok_or_err result value error p q = absurd cc
