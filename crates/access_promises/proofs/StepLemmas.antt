-- What one circuit's server does, in two parts.
use Rattle.std.proofs.Common.{◌≡◌, ◌∙◌, ℕ, suc, Bool, true, false, cond, List, [], ◌∷◌, ◌++◌, length, map, refl, sym, ap, ap₂, arith}
use Rattle.std.specs.Prelude.{Option, option_map, Result}
use Rattle.std.specs.List.{filter_map}
use Rattle.std.proofs.lemmas.List.{map-append}
use Rattle.std.proofs.lemmas.List.Elements.{filter-append, filter_map-append}
use Rattle.types.specs.Delivery.{DeliveryValue}
use Rattle.types.specs.declared.discard.Discard.{Discard}
use Rattle.config.specs.CircuitPart.{CircuitPart}
use Rattle.config.specs.Topology.{Topology}
use Rattle.circuit_server.specs.Answered.{answered}
use Rattle.circuit_server.specs.Server.{Book, book_at}
use Rattle.access_promises.specs.Alone.{answers_alone, book_alone}
use Rattle.access_promises.specs.Exchanges.{AreAlone, Exchange, failed_saves, own_exchanges, received_by}
use Rattle.access_promises.specs.Own.{Step, Receive, Tick, is_own}

pub length_map : {A B : Type 0} (f : A → B) (xs : List A) → length (map f xs) ≡ length xs
length_map f [] = refl
length_map f (x ∷ xs) = ap suc (length_map f xs)

answers_more : (part : CircuitPart) (s t : List Step) (f g : List Bool) (b : Option Book) → length f ≡ length (filter_map received_by s)
    → answers_alone part (s ++ t) (f ++ g) b ≡ answers_alone part s f b ++ answers_alone part t g (book_alone part s f b)
answers_more part [] t [] g b size = refl
answers_more part [] t (x ∷ f) g b size = absurd (omega (arith, size))
answers_more part (Tick now ∷ s) t f g b size = answers_more part s t f g (option_map (book_at now) b) size
answers_more part (Receive d ∷ s) t [] g b size = absurd (omega (arith, size))
answers_more part (Receive d ∷ s) t (x ∷ f) g b size = ap (λ answers. (answered part d x b).answer ∷ answers) (answers_more part s t f g (answered part d x b).book (omega (arith, size)))

book_more : (part : CircuitPart) (s t : List Step) (f g : List Bool) (b : Option Book) → length f ≡ length (filter_map received_by s)
    → book_alone part (s ++ t) (f ++ g) b ≡ book_alone part t g (book_alone part s f b)
book_more part [] t [] g b size = refl
book_more part [] t (x ∷ f) g b size = absurd (omega (arith, size))
book_more part (Tick now ∷ s) t f g b size = book_more part s t f g (option_map (book_at now) b) size
book_more part (Receive d ∷ s) t [] g b size = absurd (omega (arith, size))
book_more part (Receive d ∷ s) t (x ∷ f) g b size = book_more part s t f g (answered part d x b).book (omega (arith, size))

module _ (topology : Topology) (c : ℕ) (part : CircuitPart) where
  abbrev own : List Exchange → List Exchange
  own = own_exchanges topology c

  abbrev failed : List Exchange → List Bool
  failed = failed_saves topology c

  pub mapped : {A : Type 0} (f : Exchange → A) (xs ys : List Exchange) → map f (own (xs ++ ys)) ≡ map f (own xs) ++ map f (own ys)
  mapped f xs ys = ap (map f) (filter-append (λ x. is_own topology c x.datagram) xs ys) ∙ map-append f (own xs) (own ys)

  pub size_of : (s : List Step) (xs : List Exchange) → map (λ (x : Exchange). x.datagram) (own xs) ≡ filter_map received_by s → length (failed xs) ≡ length (filter_map received_by s)
  size_of s xs same = length_map (λ (x : Exchange). x.failed) (own xs) ∙ (sym (length_map (λ (x : Exchange). x.datagram) (own xs)) ∙ ap length same)

  -- one after the other
  pub alone_more : (s t : List Step) (xs ys : List Exchange) (b m e : Option Book) → AreAlone topology c part s xs b m → AreAlone topology c part t ys m e → AreAlone topology c part (s ++ t) (xs ++ ys) b e
  alone_more s t xs ys b m e one two = record {
    datagrams = mapped (λ (x : Exchange). x.datagram) xs ys ∙ (ap₂ (λ (a d : List DeliveryValue). a ++ d) one.datagrams two.datagrams ∙ sym (filter_map-append received_by s t));
    answers = mapped (λ (x : Exchange). x.answer) xs ys
        ∙ (ap₂ (λ (a d : List (Result (List ℕ) Discard)). a ++ d) one.answers (two.answers ∙ ap (answers_alone part t (failed ys)) one.book)
        ∙ (sym (answers_more part s t (failed xs) (failed ys) b (size_of s xs one.datagrams)) ∙ ap (λ f. answers_alone part (s ++ t) f b) (sym (mapped (λ (x : Exchange). x.failed) xs ys))));
    book = two.book
        ∙ (ap (book_alone part t (failed ys)) one.book
        ∙ (sym (book_more part s t (failed xs) (failed ys) b (size_of s xs one.datagrams)) ∙ ap (λ f. book_alone part (s ++ t) f b) (sym (mapped (λ (x : Exchange). x.failed) xs ys))));
  }

  pub alone_none : (b : Option Book) → AreAlone topology c part [] [] b b
  alone_none b = record { datagrams = refl; answers = refl; book = refl }

  pub alone_ticked : (now : ℕ) (b : Option Book) → AreAlone topology c part (Tick now ∷ []) [] b (option_map (book_at now) b)
  alone_ticked now b = record { datagrams = refl; answers = refl; book = refl }

  own_one : (x : Exchange) (is : Bool) → is_own topology c x.datagram ≡ is → own (x ∷ []) ≡ cond is (x ∷ []) []
  own_one x is same = ap (λ b. cond b (x ∷ []) []) same

  -- one datagram, of this circuit or of another
  pub alone_one : (x : Exchange) (b : Option Book) → is_own topology c x.datagram ≡ true → x.answer ≡ (answered part x.datagram x.failed b).answer
      → AreAlone topology c part (Receive x.datagram ∷ []) (x ∷ []) b (answered part x.datagram x.failed b).book
  alone_one x b its answer = record {
    datagrams = ap (map (λ (y : Exchange). y.datagram)) (own_one x true its);
    answers = ap (map (λ (y : Exchange). y.answer)) (own_one x true its)
        ∙ (ap (λ a. a ∷ []) answer ∙ ap (λ ys. answers_alone part (Receive x.datagram ∷ []) (map (λ (y : Exchange). y.failed) ys) b) (sym (own_one x true its)));
    book = ap (λ ys. book_alone part (Receive x.datagram ∷ []) (map (λ (y : Exchange). y.failed) ys) b) (sym (own_one x true its));
  }

  pub alone_other : (x : Exchange) (b : Option Book) → is_own topology c x.datagram ≡ false → AreAlone topology c part [] (x ∷ []) b b
  alone_other x b other = record {
    datagrams = ap (map (λ (y : Exchange). y.datagram)) (own_one x false other);
    answers = ap (map (λ (y : Exchange). y.answer)) (own_one x false other);
    book = refl;
  }
