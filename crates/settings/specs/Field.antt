-- What a look-up in the untyped data of a text finds.
use Rattle.std.specs.Prelude.{ℕ, ℤ, List, [], ◌∷◌, Option, Some, None, ⊤}
use Rattle.toml.specs.Data.{Data, string, integer, array, table, Items, no_items, item, Members, get_member}

-- nothing, a value of another type, or a value
pub data Field (A : Type 0) : Type 0 where
  Missing : Field A
  Other : Field A
  Value : A → Field A

-- there is a value, and this holds of it
abbrev pub HasValue : {A : Type 0} → Field A → (A → Type 0) → Type 0
HasValue Missing P = ⊥
HasValue Other P = ⊥
HasValue (Value a) P = P a

-- there is a value
abbrev pub IsThere : {A : Type 0} → Field A → Type 0
IsThere f = HasValue f (λ _. ⊤)

-- what is read further of a value
abbrev pub field_map : {A B : Type 0} → (A → B) → Field A → Field B
field_map f Missing = Missing
field_map f Other = Other
field_map f (Value a) = Value (f a)

-- a string, an integer, a table, an array: any other type is another type
abbrev pub text_of : Option Data → Field (List ℕ)
text_of None = Missing
text_of (Some (string bytes)) = Value bytes
text_of (Some _) = Other

abbrev pub integer_of : Option Data → Field ℤ
integer_of None = Missing
integer_of (Some (integer z)) = Value z
integer_of (Some _) = Other

abbrev pub table_of : Option Data → Field Members
table_of None = Missing
table_of (Some (table keys)) = Value keys
table_of (Some _) = Other

abbrev pub list_of : Option Data → Field Items
list_of None = Missing
list_of (Some (array entries)) = Value entries
list_of (Some _) = Other

-- what stands at a key of a table
abbrev pub text_at : List ℕ → Members → Field (List ℕ)
text_at key keys = text_of (get_member key keys)

abbrev pub integer_at : List ℕ → Members → Field ℤ
integer_at key keys = integer_of (get_member key keys)

abbrev pub table_at : List ℕ → Members → Field Members
table_at key keys = table_of (get_member key keys)

abbrev pub list_at : List ℕ → Members → Field Items
list_at key keys = list_of (get_member key keys)

-- the entries of an array, none of which is missing
abbrev pub each : {A : Type 0} → (Option Data → Field A) → Items → List (Field A)
each f no_items = []
each f (item d ds) = f (Some d) ∷ each f ds
