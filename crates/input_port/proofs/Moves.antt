use Rattle.std.proofs.Common.{◌≡◌, ◌≢◌, ℕ, zero, suc, ◌+◌, true, List, [], ◌∷◌, ◌++◌, length, get_or, map, All, set, sym, refl, ap, ◌∙◌, subst, ⊎_elim, arith, append_assoc, append-nil, length-append}
use Rattle.std.proofs.lemmas.Bool.{cases_eq}
use Rattle.std.proofs.lemmas.Bool.Decides.{nat_tests}
use Rattle.std.proofs.lemmas.List.{map-append}
use Rattle.std.proofs.lemmas.List.Elements.{All-nil, All-cons, All-push}
use mathlib.Core.Option.{some, some-ne-none}
use lib.ListN.{get_elem?}
use Rattle.crossbeam_queue.specs.Fifo.{Pushes, Pops, Forks, Merges, Learns}
use Rattle.crossbeam_queue.proofs.Lists.{at_set}
use Rattle.input_port.specs.QueueWords.{desk, gathers, last_gathered, longer, of, one_to, owner, owner_of, sender, sender_again, spent, whole, without_first, without_last, Adds, Apart, Book, Draws, Fits, FitsDesk, FitsOwner, FitsSender, Gone, IsFresh, IsGiven, IsGone, IsTimely, Kept, Placed, StartsWith, View}
use Rattle.input_port.proofs.Passes.{each_set, each_split, seated}
use Rattle.input_port.proofs.PutLists.{of_same, of_other, of_new, of_here, of-append, starts_through, starts_more, rest_none, own_kept, longer_starts, begins_back, all_mid, counted_at}

-- Nothing is put and nothing given.
pub begins : Kept [] (whole ∷ [])
begins =
    let b : Book = record { puts = []; drawn = []; given = 0; seat = λ _. 0; desk = 0; owner = 0 } in
    let owner : FitsOwner b 0 whole = record {
      only = refl;
      drawn = refl;
      known = ([], refl);
      begins = ([], refl);
      told = ([], refl);
      gathered = All-nil (IsGone b []);
      apart = tt;
    } in
    record {
      book = b;
      puts = refl;
      numbered = All-nil (IsGiven 0);
      counted = λ n. refl;
      timely = All-nil IsTimely;
      fits = each_set (Fits b) (whole ∷ []) 0 whole ((λ _. record { only = refl; given = refl }), (λ e. cc), λ _. owner)
          (λ j u other e. only_one j u other e);
    }
  where
    only_one : {A : Type 0} → (j : ℕ) (u : View) → j ≢ 0 → get_elem? (whole ∷ []) j ≡ some u → A
    only_one zero u other e = absurd (other refl)
    only_one (suc j) u other e = absurd (some-ne-none u (sym e))

-- One entry is put.
abbrev more : Book → Placed → Book
more b x = record b { puts = b.puts ++ x ∷ [] }

seats_apart : (seat : ℕ → ℕ) (n m p q : ℕ) → seat n ≡ p → seat m ≡ q → p ≢ q → n ≢ m
seats_apart seat n m p q sn sm other e = other (sym sn ∙ ap seat e ∙ sm)

fits_more : (b : Book) (pass : ℕ) (x : Placed) → b.seat x.number ≡ suc pass → (j : ℕ) (u : View) → j ≢ pass → Fits b j u → Fits (more b x) j u
fits_more b pass x seat j u other fits = (
  (λ may. let f = fits.0 may in assumption),
  (λ may.
      let f = fits.1 may in
      let seen = starts_more b.puts u.seen x f.seen in
      let own = of_other u.number b.puts x
      (seats_apart b.seat x.number u.number (suc pass) (suc j) seat f.seated (λ e. omega arith)) ∙ f.own in assumption),
  λ may.
      let f = fits.2 may in
      let known = starts_more b.puts u.seen x f.known in
      let gathered : All (IsGone (more b x) u.seen) u.gathered = λ k d lt.
      let g = f.gathered k d lt in
      let own = of_other _ b.puts x (seats_apart b.seat x.number _ (suc pass) 0 seat g.free (λ e. omega arith))
      ∙ g.own in assumption in assumption,
)

counts_more : (b : Book) (x : Placed) → x.count ≡ length (of x.number b.puts) + 1 → (n : ℕ)
    → map (λ (p : Placed). p.count) (of n b.puts) ≡ one_to (length (of n b.puts))
    → map (λ (p : Placed). p.count) (of n (b.puts ++ x ∷ [])) ≡ one_to (length (of n (b.puts ++ x ∷ [])))
counts_more b x next n counted =
    ⊎_elim (λ (e : x.number ≡ n).
    let same = of_same n b.puts x e in
    let long : length (of n b.puts ++ x ∷ []) ≡ suc (length (of n b.puts)) = omega (arith, length-append (of n b.puts) (x ∷ [])) in
    let count : x.count ≡ suc (length (of n b.puts)) = (let has = ap (λ m. length (of m b.puts)) e in omega arith) in
    rw (same, map-append, counted) (ap (λ c. one_to (length (of n b.puts)) ++ c ∷ []) count ∙ sym (ap one_to long)))
    (λ (ne : x.number ≢ n). rw (of_other n b.puts x ne) counted)
    (cases_eq x.number n)

-- A sender puts an entry behind all that it had seen.
pub pushes : (n pass : ℕ) (v : View) (x : Placed) → v.sends ≡ true → x.number ≡ v.number → x.count ≡ v.count + 1 → IsTimely x → Pushes Kept n pass v x (Adds v x)
pushes n pass v x may num cnt timely items views room h at =
    let b = h.book in
    let f = (h.fits pass v at).1 may in
    let w : View = sender v.number (v.count + 1) ((v.seen ++ f.seen.0) ++ x ∷ []) in
    let all : b.puts ++ x ∷ [] ≡ w.seen = ap (λ l. l ++ x ∷ []) f.seen.1 in
    let seat : b.seat x.number ≡ suc pass = ap b.seat num ∙ f.seated in
    let before : length (of v.number b.puts) ≡ v.count = ap length f.own ∙ f.counted in
    let next : x.count ≡ length (of x.number b.puts) + 1 = (let has = ap (λ m. length (of m b.puts)) num in omega arith) in
    let mine : FitsSender (more b x) pass w =
    let seen : StartsWith (b.puts ++ x ∷ []) w.seen = ([], all ∙ sym (append-nil w.seen)) in
    let own = ap (of v.number) all in
    let counted : length (of v.number w.seen) ≡ v.count + 1 =
    sym (ap length own) ∙ ap length (of_same v.number b.puts x num) ∙
    (omega (arith, length-append (of v.number b.puts) (x ∷ []))) in assumption in (
      w,
      record {
        book = more b x;
        puts = sym (append_assoc b.drawn items (x ∷ [])) ∙ ap (λ l. l ++ x ∷ []) h.puts;
        numbered = All-push (IsGiven b.given) b.puts x h.numbered (omega arith, omega arith);
        counted = λ k. counts_more b x next k (h.counted k);
        timely = All-push IsTimely b.puts x h.timely timely;
        fits = each_set (Fits (more b x)) views pass w ((λ e. cc), (λ _. mine), (λ e. cc))
            (λ j u other e. fits_more b pass x seat j u other (h.fits j u e));
      },
      (f.seen.0, rest_none v.number b.puts v.seen f.seen f.own, refl),
    )

-- The owner draws an entry.
abbrev drew : Book → Placed → Book
drew b x = record b { drawn = b.drawn ++ x ∷ [] }

pub pops : (pass : ℕ) (v : View) → v.takes ≡ true → Pops Kept pass v (Draws v)
pops pass v may x items views h at =
    let b = h.book in
    let f = (h.fits pass v at).2 may in
    let drawn = v.drawn ++ x ∷ [] in
    let same : drawn ≡ b.drawn ++ x ∷ [] = ap (λ l. l ++ x ∷ []) f.drawn in
    let all : (b.drawn ++ x ∷ []) ++ items ≡ b.puts = append_assoc b.drawn (x ∷ []) items ∙ h.puts in
    let has : StartsWith b.puts drawn = (items, sym all ∙ ap (λ l. l ++ items) (sym same)) in
    let l = longer_starts b.puts v.seen drawn f.known has in
    let w : View = owner drawn (longer v.seen drawn) v.told v.gathered in
    let gone : All (IsGone (drew b x) w.seen) v.gathered = λ k d lt.
    let g = f.gathered k d lt in
    let own = own_kept _ b.puts w.seen v.seen l.whole l.left g.own in
    let counted = ap length (sym own ∙ g.own) ∙ g.counted in assumption (own, counted) in
    let told = starts_through w.seen v.seen v.told l.left f.told in
    let mine : FitsOwner (drew b x) pass w = assumption (f.only, same, l.whole, l.right, told, gone, f.apart) in
    let number = all_mid (IsGiven b.given) b.drawn x items (rw (← h.puts) at h.numbered) in
    let split : of x.number b.puts ≡ of x.number b.drawn ++ x ∷ of x.number items =
    ap (of x.number) (sym h.puts) ∙ of-append x.number b.drawn (x ∷ items) ∙ ap (λ r. of x.number b.drawn ++ r) (of_here x.number x items refl) in
    let count = counted_at (of x.number b.drawn) x (of x.number items) (rw split at (h.counted x.number)) in (
      w,
      record {
        book = drew b x;
        puts = all;
        numbered = h.numbered;
        counted = h.counted;
        timely = h.timely;
        fits = each_set (Fits (drew b x)) views pass w ((λ e. cc), (λ e. cc), λ _. mine)
            (λ j u other e. let old = h.fits j u e in (
              (λ m. let o = old.0 m in assumption),
              (λ m. let o = old.1 m in assumption),
              λ m. absurd (other ((old.2 m).only ∙ sym f.only)),
            ));
      },
      (
        refl,
        l.left,
        l.right,
        f.told,
        (λ k d lt. (gone k d lt).counted),
        number.0,
        count ∙ ap (λ d. length (of x.number d) + 1) (sym f.drawn),
        f.apart,
        all_mid IsTimely b.drawn x items (rw (← h.puts) at h.timely),
      ),
    )

-- The owner finds the queue empty.
pub learns : (pass : ℕ) (v : View) → v.takes ≡ true → Learns Kept pass v (IsFresh v)
learns pass v may items views h at =
    let b = h.book in
    let f = (h.fits pass v at).2 may in (
      (λ none. begins_back v.drawn v.seen
          (f.known.0, f.drawn ∙ sym (append-nil b.drawn) ∙ ap (λ l. b.drawn ++ l) (sym none) ∙ h.puts ∙ f.known.1) f.begins),
      f.told,
      (λ k d lt. (f.gathered k d lt).counted),
      f.apart,
    )

-- The first pass is split into the owner's and the desk's.
pub forks_ends : (pass : ℕ) (v : View) → v.gives ≡ true → v.takes ≡ true → Forks Kept pass v (owner_of v) (desk v.number)
forks_ends pass v gives takes items views h at =
    let b = h.book in
    let fd = (h.fits pass v at).0 gives in
    let f = (h.fits pass v at).2 takes in
    let c : Book = record b { desk = length views } in
    let gathered : All (IsGone c v.seen) v.gathered = λ k d lt. let g = f.gathered k d lt in assumption in
    let mine : FitsOwner c pass (owner_of v) = assumption in
    let fits = each_split (Fits c) views pass (owner_of v) (desk v.number) ((λ e. cc), (λ e. cc), λ _. mine)
    ((λ _. record { only = refl; given = fd.given }), (λ e. cc), λ e. cc)
    (λ j u other e. let old = h.fits j u e in (
      (λ m. absurd (other ((old.0 m).only ∙ sym fd.only))),
      (λ m. let o = old.1 m in assumption),
      λ m. absurd (other ((old.2 m).only ∙ sym f.only)),
    )) in
    record { book = c; puts = h.puts; numbered = h.numbered; counted = h.counted; timely = h.timely; fits = fits }

-- The desk gives out the next number.
pub forks_next : (pass : ℕ) (v : View) → v.gives ≡ true → Forks Kept pass v (desk (v.number + 1)) (sender (v.number + 1) 0 [])
forks_next pass v gives items views h at =
    let b = h.book in
    let fd = (h.fits pass v at).0 gives in
    let n = v.number + 1 in
    let c : Book = record b { given = b.given + 1; seat = seated b.seat n (suc (length views)) } in
    let new : FitsSender c (length views) (sender n 0 []) =
    let seen : StartsWith b.puts [] = (b.puts, refl) in
    let own = of_new b.given n b.puts h.numbered (omega arith) in search (arith, nat_tests) in
    let mine : FitsDesk c pass (desk n) = search arith in
    let numbered : All (IsGiven c.given) b.puts = λ k d lt. let o = h.numbered k d lt in (o.0, omega arith) in
    let fits = each_split (Fits c) views pass (desk n) (sender n 0 []) ((λ _. mine), (λ e. cc), λ e. cc)
    ((λ e. cc), (λ _. new), λ e. cc)
    (λ j u other e. let old = h.fits j u e in (
      (λ m. absurd (other ((old.0 m).only ∙ sym fd.only))),
      (λ m. let o = old.1 m in search (arith, nat_tests)),
      λ m.
          let o = old.2 m in
          let gathered : All (IsGone c u.seen) u.gathered = λ k d lt. let g = o.gathered k d lt in
          search (arith, nat_tests) in assumption,
    )) in
    record { book = c; puts = h.puts; numbered = numbered; counted = h.counted; timely = h.timely; fits = fits }

-- The owner takes a sender in.
pub merges : (pass : ℕ) (v : View) (from : ℕ) (u : View) → v.takes ≡ true → u.sends ≡ true → Merges Kept pass v from u (gathers v u) spent
merges pass v from u takes sends items views h at two at' =
    let b = h.book in
    let both = gathers v u in
    let was : get_elem? views from ≡ some u = ⊎_elim (λ x. absurd (two x.0)) (λ x. x.1) (at_set views pass from both u at') in
    let f = (h.fits pass v at).2 takes in
    let s = (h.fits from u was).1 sends in
    let c : Book = record b { seat = seated b.seat u.number 0 } in
    let l = longer_starts b.puts v.seen u.seen f.known s.seen in
    let here : Gone = record { number = u.number; count = u.count } in
    let mine : IsGone c both.seen here =
    let own = own_kept u.number b.puts both.seen u.seen l.whole l.right s.own in
    let counted : length (of u.number both.seen) ≡ u.count = ap length (sym own ∙ s.own) ∙ s.counted in
    search (arith, nat_tests) in
    let apart_of : All (λ g. g.number ≢ u.number) v.gathered = λ k d lt.
    seats_apart b.seat _ u.number 0 (suc from) (f.gathered k d lt).free s.seated (λ e. omega arith) in
    let gone : All (IsGone c both.seen) v.gathered = λ k d lt.
    let g = f.gathered k d lt in
    let other = apart_of k d lt in
    let own = own_kept _ b.puts both.seen v.seen l.whole l.left g.own in
    let counted = ap length (sym own ∙ g.own) ∙ g.counted in search (arith, nat_tests) in
    let now : FitsOwner c pass both =
    let begins = starts_through both.seen v.seen v.drawn l.left f.begins in
    let gathered = All-cons (IsGone c both.seen) here v.gathered mine gone in
    let apart : Apart (here ∷ v.gathered) = (apart_of, f.apart) in
    assumption (begins, gathered, apart, l.whole, l.short) in
    record {
      book = c;
      puts = h.puts;
      numbered = h.numbered;
      counted = h.counted;
      timely = h.timely;
      fits = each_set (Fits c) (set views pass both) from spent ((λ e. cc), (λ e. cc), λ e. cc)
          (λ j y apart e. each_set (λ k w. k ≢ from → Fits c k w) views pass both
          (λ _. ((λ e. cc), (λ e. cc), λ _. now))
          (λ k w other q distinct. let old = h.fits k w q in (
            (λ m. let o = old.0 m in assumption),
            (λ m.
                let o = old.1 m in
                let differs = seats_apart b.seat w.number u.number (suc k) (suc from) o.seated s.seated
                (λ z. distinct (omega arith)) in search (arith, nat_tests)),
            λ m. absurd (other ((old.2 m).only ∙ sym f.only)),
          )) j y e apart);
    }

-- The sender that was gathered last comes back.
forks_sender : (pass : ℕ) (v : View) (g : Gone) (gs : List Gone) → v.takes ≡ true → v.gathered ≡ g ∷ gs
    → Forks Kept pass v (owner v.drawn v.seen v.told gs) (sender g.number g.count v.seen)
forks_sender pass v g gs takes is items views h at =
    let b = h.book in
    let f = (h.fits pass v at).2 takes in
    let all : All (IsGone b v.seen) (g ∷ gs) = rw is at f.gathered in
    let apart : Apart (g ∷ gs) = rw is at f.apart in
    let first : IsGone b v.seen g = all 0 g (omega arith) in
    let c : Book = record b { seat = seated b.seat g.number (suc (length views)) } in
    let left : View = owner v.drawn v.seen v.told gs in
    let rest : All (IsGone c v.seen) gs = λ k d lt.
    let o : IsGone b v.seen (get_or gs k d) = all (suc k) d (omega arith) in
    let other = apart.0 k d lt in search (arith, nat_tests) in
    let mine : FitsOwner c pass left = assumption (apart.1, rest) in
    let new : FitsSender c (length views) (sender g.number g.count v.seen) = let seen = f.known in
    search (arith, nat_tests) in
    let fits = each_split (Fits c) views pass left (sender g.number g.count v.seen) ((λ e. cc), (λ e. cc), λ _. mine)
    ((λ e. cc), (λ _. new), λ e. cc)
    (λ j u other e. let old = h.fits j u e in (
      (λ m. let o = old.0 m in assumption),
      (λ m.
          let o = old.1 m in
          let differs = seats_apart b.seat u.number g.number (suc j) 0 o.seated first.free (λ z. omega arith) in
          search (arith, nat_tests)),
      λ m. absurd (other ((old.2 m).only ∙ sym f.only)),
    )) in
    record { book = c; puts = h.puts; numbered = h.numbered; counted = h.counted; timely = h.timely; fits = fits }

pub forks_again : (pass : ℕ) (v : View) (g : Gone) (gs : List Gone) → v.takes ≡ true → v.gathered ≡ g ∷ gs
    → Forks Kept pass v (without_last v) (last_gathered v)
forks_again pass v g gs takes is =
    subst (λ l. Forks Kept pass v (owner v.drawn v.seen v.told (without_first l)) (sender_again v.seen l)) (sym is) (forks_sender pass v g gs takes is)
