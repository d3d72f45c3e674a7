-- Which strings spell addresses, ports and sources.
use Rattle.std.specs.Prelude.{◌≡◌, ◌≢◌, ℕ, ◌≤◌, ◌<◌, ◌^◌, List, ◌∷◌, ◌++◌, length, slice_index, decimal, Ok}
use Rattle.std.specs.Net.Grammar.{IsDotted}
use Rattle.hex.specs.Hex.{decode_sized}
use Rattle.types.specs.declared.addr.Addr4.{Addr4}
use Rattle.types.specs.declared.addr.Addr6.{Addr6}
use Rattle.types.specs.declared.addr.Source.{Source}

-- Four numbers from 0 to 255 with dots between them, each written in decimal without leading zeros.
abbrev pub IsAddress : List ℕ → Addr4 → Type 0
IsAddress text address = IsDotted text address.0

-- a number from 1 to 65535, written in decimal without leading zeros
pub record IsPort (text : List ℕ) (port : ℕ) : Type 0 where
  pub spelled : text ≡ decimal port
  pub least : 1 ≤ port
  pub most : port < 2 ^ 16

-- an address and a port, split at the string's only colon
pub record IsSource (text : List ℕ) (source : Source) : Type 0 where
  pub front : List ℕ
  pub back : List ℕ
  -- 58 is the colon
  pub joined : text ≡ front ++ 58 ∷ back
  pub no_colon : (i : ℕ) → i < length front → slice_index front i ≢ 58
  pub address : IsAddress front source.addr
  pub port : IsPort back source.port

-- two hexadecimal digits of either case for each of the 16 bytes
abbrev pub IsAddress6 : List ℕ → Addr6 → Type 0
IsAddress6 text address = decode_sized text 16 ≡ Ok address.0
