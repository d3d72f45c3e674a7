-- What the texts and numbers of a configuration spell is one value each.
use Rattle.std.proofs.Common.{◌≡◌, ◌≢◌, ◌<◌, ℕ, ℤ, suc, pos, List, [], ◌∷◌, ◌++◌, length, slice_index, refl, ap, sym, subst, ◌∙◌, arith}
use Rattle.std.proofs.lemmas.Fmt.{decimal_injective}
use Rattle.std.specs.declared.net.ipv4_addr.Ipv4Addr.{Ipv4Addr}
use Rattle.std.specs.Net.Addr.{ipv4_octets}
use Rattle.std.proofs.NetLemmas.Theorems.{IsIpv4Text_unique}
use Rattle.hex.specs.Hex.{decode_sized}
use Rattle.hex.proofs.HexLemmas.{decode_sized-ok}
use Rattle.types.specs.declared.addr.Addr4.{Addr4}
use Rattle.types.specs.declared.addr.Addr6.{Addr6}
use Rattle.types.specs.declared.addr.Source.{Source}
use Rattle.settings.specs.Field.{Field, Missing, Other, Value, HasValue}
use Rattle.settings.specs.Texts.{IsAddress, IsPort, IsSource, IsAddress6}
use Rattle.settings.specs.Values.{IsNumber, IsName, IsDuid, IsId, AreAddresses}

-- what two facts give of one value, they give of a field that has both
pub meet : {A : Type 0} (f : Field A) (P Q : A → Type 0) (R : Type 0) → ((a : A) → P a → Q a → R) → HasValue f P → HasValue f Q → R
meet Missing P Q R so h k = absurd h
meet Other P Q R so h k = absurd h
meet (Value a) P Q R so h k = so a h k

abbrev octets : Addr4 → Ipv4Addr
octets a = record { octets = a.0 }

one_address : (text : List ℕ) (a b : Addr4) → IsAddress text a → IsAddress text b → a.0 ≡ b.0
one_address text a b h k = ap ipv4_octets (IsIpv4Text_unique text (octets a) (octets b) h k)

pub same_address : (f : Field (List ℕ)) (a b : Addr4) → HasValue f (λ text. IsAddress text a) → HasValue f (λ text. IsAddress text b) → a.0 ≡ b.0
same_address f a b h k = meet f (λ text. IsAddress text a) (λ text. IsAddress text b) (a.0 ≡ b.0) (λ text x y. one_address text a b x y) h k

one_address6 : (text : List ℕ) (a b : Addr6) → IsAddress6 text a → IsAddress6 text b → a.0 ≡ b.0
one_address6 text a b h k = let e = sym h ∙ k in cc

pub same_address6 : (f : Field (List ℕ)) (a b : Addr6) → HasValue f (λ text. IsAddress6 text a) → HasValue f (λ text. IsAddress6 text b) → a.0 ≡ b.0
same_address6 f a b h k = meet f (λ text. IsAddress6 text a) (λ text. IsAddress6 text b) (a.0 ≡ b.0) (λ text x y. one_address6 text a b x y) h k

pub same_number : (f : Field ℤ) (least most n m : ℕ) → IsNumber f least most n → IsNumber f least most m → n ≡ m
same_number f least most n m h k = let e : Value (pos n) ≡ Value (pos m) = sym h.value ∙ k.value in cc

one_name : (text m n : List ℕ) → IsName text m → IsName text n → m ≡ n
one_name text m n h k = sym h.value ∙ k.value

pub same_name : (f : Field (List ℕ)) (m n : List ℕ) → HasValue f (λ text. IsName text m) → HasValue f (λ text. IsName text n) → m ≡ n
same_name f m n h k = meet f (λ text. IsName text m) (λ text. IsName text n) (m ≡ n) (λ text x y. one_name text m n x y) h k

one_id : (text m n : List ℕ) → IsId text m → IsId text n → m ≡ n
one_id text m n h k = sym h.value ∙ k.value

pub same_id : (f : Field (List ℕ)) (m n : List ℕ) → HasValue f (λ text. IsId text m) → HasValue f (λ text. IsId text n) → m ≡ n
same_id f m n h k = meet f (λ text. IsId text m) (λ text. IsId text n) (m ≡ n) (λ text x y. one_id text m n x y) h k

-- two DUIDs of one text have half its length
one_duid : (text d e : List ℕ) → IsDuid text d → IsDuid text e → d ≡ e
one_duid text d e h k =
    let one = decode_sized-ok text (length d) d h.spelled in
    let other = decode_sized-ok text (length e) e k.spelled in
    let long : length d ≡ length e = omega arith in
    let same = sym h.spelled ∙ ap (decode_sized text) long ∙ k.spelled in
    cc

pub same_duid : (f : Field (List ℕ)) (d e : List ℕ) → HasValue f (λ text. IsDuid text d) → HasValue f (λ text. IsDuid text e) → d ≡ e
same_duid f d e h k = meet f (λ text. IsDuid text d) (λ text. IsDuid text e) (d ≡ e) (λ text x y. one_duid text d e x y) h k

-- no colon
abbrev Plain : List ℕ → Type 0
Plain xs = (i : ℕ) → i < length xs → slice_index xs i ≢ 58

plain_rest : (x : ℕ) (xs : List ℕ) → Plain (x ∷ xs) → Plain xs
plain_rest x xs h = λ i less. h (suc i) (omega arith)

-- there is one way to split a text at its only colon
one_split : (f g b d : List ℕ) → f ++ 58 ∷ b ≡ g ++ 58 ∷ d → Plain f → Plain g → (f ≡ g) × (b ≡ d)
one_split [] [] b d e plain_f plain_g = (refl, cc)
one_split [] (y ∷ g) b d e plain_f plain_g = absurd (plain_g 0 (omega arith) cc)
one_split (x ∷ f) [] b d e plain_f plain_g = absurd (plain_f 0 (omega arith) cc)
one_split (x ∷ f) (y ∷ g) b d e plain_f plain_g =
    let head : x ≡ y = cc in
    let tail : f ++ 58 ∷ b ≡ g ++ 58 ∷ d = cc in
    let rest = one_split f g b d tail (plain_rest x f plain_f) (plain_rest y g plain_g) in
    ((λ i. head i ∷ rest.0 i), rest.1)

one_port : (text : List ℕ) (m n : ℕ) → IsPort text m → IsPort text n → m ≡ n
one_port text m n h k = decimal_injective m n (omega (arith, h.most)) (omega (arith, k.most)) (sym h.spelled ∙ k.spelled)

one_source : (text : List ℕ) (s t : Source) → IsSource text s → IsSource text t → s ≡ t
one_source text s t h k =
    let parts = one_split h.front k.front h.back k.back (sym h.joined ∙ k.joined) h.no_colon k.no_colon in
    let address = one_address k.front s.addr t.addr (subst (λ x. IsAddress x s.addr) parts.0 h.address) k.address in
    let port = one_port k.back s.port t.port (subst (λ x. IsPort x s.port) parts.1 h.port) k.port in
    λ i. record { addr = record { 0 = address i }; port = port i }

pub same_source : (f : Field (List ℕ)) (s t : Source) → HasValue f (λ text. IsSource text s) → HasValue f (λ text. IsSource text t) → s ≡ t
same_source f s t h k = meet f (λ text. IsSource text s) (λ text. IsSource text t) (s ≡ t) (λ text x y. one_source text s t x y) h k

one_list : (texts : List (Field (List ℕ))) (m n : List Addr4) → AreAddresses texts m → AreAddresses texts n → m ≡ n
one_list [] [] [] h k = refl
one_list [] (a ∷ m) n h k = absurd h
one_list [] [] (b ∷ n) h k = absurd k
one_list (f ∷ fs) [] n h k = absurd h
one_list (f ∷ fs) (a ∷ m) [] h k = absurd k
one_list (f ∷ fs) (a ∷ m) (b ∷ n) h k =
    let head = same_address f a b h.0 k.0 in
    let tail = one_list fs m n h.1 k.1 in
    λ i. record { 0 = head i } ∷ tail i

pub same_addresses : (f : Field (List (Field (List ℕ)))) (m n : List Addr4) → HasValue f (λ texts. AreAddresses texts m) → HasValue f (λ texts. AreAddresses texts n) → m ≡ n
same_addresses f m n h k = meet f (λ texts. AreAddresses texts m) (λ texts. AreAddresses texts n) (m ≡ n) (λ texts x y. one_list texts m n x y) h k
