-- The group that an opening writes: two more than the chosen one, with its index page.
use Rattle.std.proofs.Common.{◌≡◌, ◌≢◌, ◌⊎◌, inl, inr, ⊎_elim, ℕ, zero, suc, ◌+◌, ◌^◌, ◌<◌, ◌≤◌, List, [], ◌∷◌, ◌++◌}
use Rattle.std.proofs.Common.{length, Bool, true, false, refl, sym, ◌∙◌, ap, subst, arith, append_assoc}
use Rattle.std.specs.Prelude.{Contains, AllPairs, slice_index_or, All}
use Rattle.std.proofs.lemmas.Bool.{cases_eq}
use Rattle.std.proofs.lemmas.List.{append-nil, get_or_default}
use Rattle.std.proofs.lemmas.List.Elements.{All-append}
use Rattle.sha2.specs.Sha256.{sha256}
use Rattle.bank_trait.specs.Disk.{Known}
use Rattle.width_map.proofs.Growing.{none_above_more}
use Rattle.block_record.specs.declared.entry.IndexEntry.{IndexEntry}
use Rattle.block_record.specs.Page.{index_page, IsIndex}
use Rattle.uberblock_ring.specs.Devices.{has_device, count_below, IsWithin}
use Rattle.uberblock_ring.specs.Uberblock.{Uber}
use Rattle.uberblock_ring.specs.Valid.{IsRightUber}
use Rattle.core_state.specs.Index.{IsFitting, IsIndexOf}
use Rattle.core_state.specs.Keeps.{AreNearWidths, Kept, Setting, IsNextOf, Renews, SameGroup, HasWidthIn}
use Rattle.core_state.specs.Certain.{CellsOn, IsSound, IsCertain, IsSuccession, Knows, certain}
use Rattle.core_state.specs.Committing.{Point}
use Rattle.core_state.specs.Moment.{IsRowOf}
use Rattle.core_state.proofs.Calls.{true_false}
use Rattle.core_state.proofs.Fresh.{none_in}
use Rattle.core_state.proofs.Keeping.{alone_fits, fits_alone, fitting_alike}
use Rattle.core_state.proofs.Listed.{contains_head, contains_tail, contains_cases, contains_none}
use Rattle.core_state.proofs.Moving.{cells_same, knows_move, knows_widen}
use Rattle.core_state.proofs.Reader.{same_group}
use Rattle.core_state.proofs.Widths.{listed_width, only_width, width_like, widths_behind}
use Rattle.core_commit.specs.Spread.{IsInUse, IsSpreadTo, StaysKnown, MaySpread}
use Rattle.core_commit.proofs.Rows.{IsBefore, last_alone, contains_front, contains_back}

-- A list in two parts about one of its own.
split_at : (groups : List Kept) (kept : Kept) → Contains groups kept
    → (front : List Kept) × (back : List Kept) × (groups ≡ front ++ kept ∷ back)
split_at [] kept has = absurd (contains_none kept has)
split_at (first ∷ groups) kept has = ⊎_elim
    (λ same. ([], groups, ap (λ (k : Kept). k ∷ groups) (sym same)))
    (λ later. let rest = split_at groups kept later in
    (first ∷ rest.0, rest.1, ap (λ (g : List Kept). first ∷ g) rest.2))
    (contains_cases first groups kept has)

pairs_tail : (first : Kept) (groups : List Kept) → AllPairs IsBefore (first ∷ groups) → AllPairs IsBefore groups
pairs_tail first groups pairs one two default less low =
    pairs (suc one) (suc two) default (omega (arith, less)) (omega (arith, low))

pairs_head : (first : Kept) (groups : List Kept) (other : Kept) → AllPairs IsBefore (first ∷ groups)
    → Contains groups other
    → first.uber.group < other.uber.group
pairs_head first groups other pairs (k, low, is) =
    let less = pairs 0 (suc k) other (omega arith) (omega (arith, low)) in
    subst (λ (kept : Kept). first.uber.group < kept.uber.group) is less

pairs_suffix : (front back : List Kept) → AllPairs IsBefore (front ++ back) → AllPairs IsBefore back
pairs_suffix [] back pairs = pairs
pairs_suffix (first ∷ front) back pairs = pairs_suffix front back (pairs_tail first (front ++ back) pairs)

-- One of a later number is behind.
behind_kept : (front : List Kept) (kept : Kept) (back : List Kept) (other : Kept)
    → AllPairs IsBefore (front ++ kept ∷ back) → Contains (front ++ kept ∷ back) other
    → kept.uber.group ≤ other.uber.group
    → Contains (kept ∷ back) other
behind_kept [] kept back other pairs has high = has
behind_kept (first ∷ front) kept back other pairs has high = ⊎_elim
    (λ same.
    let less = pairs_head first (front ++ kept ∷ back) kept pairs
    (contains_back front (kept ∷ back) kept (contains_head kept back)) in
    let number : other.uber.group ≡ first.uber.group = ap (λ (k : Kept). k.uber.group) same in
    absurd (omega (arith, less, number, high)))
    (λ later. behind_kept front kept back other (pairs_tail first (front ++ kept ∷ back) pairs) later high)
    (contains_cases first (front ++ kept ∷ back) other has)

contains_either : (front back : List Kept) (kept : Kept) → Contains (front ++ back) kept
    → Contains front kept ⊎ Contains back kept
contains_either [] back kept has = inr has
contains_either (first ∷ front) back kept has = ⊎_elim
    (λ same. inl (subst (λ (k : Kept). Contains (first ∷ front) k) (sym same) (contains_head first front)))
    (λ later. ⊎_elim (λ one. inl (contains_tail first front kept one)) (λ two. inr two)
    (contains_either front back kept later))
    (contains_cases first (front ++ back) kept has)

-- One more at the end, above all others.
pairs_more : (groups : List Kept) (next : Kept) → AllPairs IsBefore groups
    → ((kept : Kept) → Contains groups kept → kept.uber.group < next.uber.group)
    → AllPairs IsBefore (groups ++ next ∷ [])
pairs_more [] next pairs above one two default less low = absurd (omega (arith, less, low))
pairs_more (first ∷ groups) next pairs above zero zero default less low = absurd (omega (arith, less))
pairs_more (first ∷ groups) next pairs above (suc one) zero default less low = absurd (omega (arith, less))
pairs_more (first ∷ groups) next pairs above zero (suc two) default less low =
    at (slice_index_or (groups ++ next ∷ []) two default) (
      two,
      omega (arith, low),
      get_or_default (groups ++ next ∷ []) two
          (slice_index_or (groups ++ next ∷ []) two default) default (omega (arith, low)),
    )
  where
    at : (other : Kept) → Contains (groups ++ next ∷ []) other → first.uber.group < other.uber.group
    at other has = ⊎_elim (λ one. pairs_head first groups other pairs one)
        (λ last. ⊎_elim
        (λ same. subst (λ (k : Kept). first.uber.group < k.uber.group) (sym same)
        (above first (contains_head first groups)))
        (λ none. absurd (contains_none other none)) (contains_cases next [] other last))
        (contains_either groups (next ∷ []) other has)
pairs_more (first ∷ groups) next pairs above (suc one) (suc two) default less low =
    pairs_more groups next (pairs_tail first groups pairs)
    (λ kept has. above kept (contains_tail first groups kept has)) one two default (omega (arith, less)) (omega (arith, low))

-- Whether a group of this number is listed.
pub find_number : (groups : List Kept) (number : ℕ)
    → ((kept : Kept) × Contains groups kept × (kept.uber.group ≡ number))
    ⊎ ((kept : Kept) → Contains groups kept → kept.uber.group ≢ number)
find_number [] number = inr (λ kept has. absurd (contains_none kept has))
find_number (first ∷ groups) number = ⊎_elim
    (λ same. inl (first, contains_head first groups, same))
    (λ apart. ⊎_elim
    (λ later. inl (later.0, contains_tail first groups later.0 later.1, later.2))
    (λ none. inr (λ kept has. ⊎_elim
    (λ same number_is. apart (sym (ap (λ (k : Kept). k.uber.group) same) ∙ number_is))
    (λ later. none kept later) (contains_cases first groups kept has)))
    (find_number groups number))
    (cases_eq first.uber.group number)

-- What is known of a group is known of one that renews it.
cells_renewed : (kept next : Kept) (known : Known) (device : ℕ) → Renews kept next
    → CellsOn known kept device → CellsOn known next device
cells_renewed kept next known device renews cells = cells_same next renumbered known device
    (record {
      entries = renews.entries;
      others = renews.others;
      map = renews.map;
      alike = renews.alike;
      excepted = renews.excepted;
    })
    (λ device_sector bytes asks. record {
      at = λ x wanted asked none. cells.at x wanted
          (record { cell = asked.cell; cell_is = asked.cell_is; place = asked.place; bytes_are = asked.bytes_are }) none;
    })
  where
    renumbered : Kept
    renumbered = record {
      uber = record kept.uber { group = kept.uber.group + 2 };
      entries = kept.entries;
      others = kept.others;
      map = kept.map;
      excepted = kept.excepted;
    }

-- What an opening knows once the chosen group is brought to each device in use.
pub record IsSpread (setting : Setting) (first : Kept) (later : List Kept) (kept : Kept) (uber : Uber)
    (entries : List IndexEntry) (point : Point) : Type 0 where
  pub listed : Contains (first ∷ later) kept
  pub near : (kept ≡ first) ⊎ IsNextOf first kept
  pub same : SameGroup kept (record kept { uber = uber; entries = entries })
  pub sound : IsSound setting kept
  pub right : IsRightUber uber
  pub parity_is : kept.uber.parity ≡ first.uber.parity
  pub stays : StaysKnown (record { setting = setting; first = first; later = later; kept = kept; map = kept.map })
      uber entries point
  pub brought : (device : ℕ) → IsInUse uber point device
      → IsSpreadTo (record { setting = setting; first = first; later = later; kept = kept; map = kept.map })
      uber entries point device
  pub within : IsWithin point.out setting.failed
  pub lists : IsWithin uber.out point.out
  pub out : (point.out < 2 ^ uber.reflow.to) × (count_below point.out uber.reflow.to ≤ uber.parity)
  pub limit : uber.group + 2 ≤ 2 ^ 62

module _ (setting : Setting) (first : Kept) (later : List Kept) (kept : Kept) (uber : Uber)
    (entries : List IndexEntry) (point : Point)
    (is : IsSpread setting first later kept uber entries point) where
  abbrev pub renewed : Uber
  renewed = record uber { group = uber.group + 2; out = point.out }

  abbrev pub fresh : Kept
  fresh = record kept { uber = renewed; entries = entries }

  knows : Knows setting first later point.disk
  knows = is.stays.knows

  pub renewed_right : IsRightUber renewed
  renewed_right = record {
    pool = is.right.pool;
    group = (omega arith, is.limit);
    parity = is.right.parity;
    widths = is.right.widths;
    rows = is.right.rows;
    reflow = is.right.reflow;
    area = is.right.area;
    out = is.out;
    count = is.right.count;
    digest = is.right.digest;
    births = record {
      growing = is.right.births.growing;
      few = is.right.births.few;
      wide = is.right.births.wide;
      last = is.right.births.last;
      begun = none_above_more (uber.group + 2) (uber.group + 2 + 2) uber.births (omega arith) is.right.births.begun;
    };
  }

  group_is : kept.uber.group ≡ uber.group
  group_is = ap (λ (u : Uber). u.group) is.same.alike

  pub fresh_renews : Renews kept fresh
  fresh_renews = record {
    entries = sym is.same.entries;
    others = refl;
    map = λ id. refl;
    alike = sym (ap (λ (u : Uber). record u { group = u.group + 2 }) is.same.alike);
    excepted = refl;
  }

  pub parts : (front : List Kept) × (back : List Kept) × (first ∷ later ≡ front ++ kept ∷ back)
  parts = split_at (first ∷ later) kept is.listed

  abbrev back : List Kept
  back = parts.1

  ordered : AllPairs IsBefore (parts.0 ++ kept ∷ back)
  ordered = subst (AllPairs IsBefore) parts.2 knows.row.ascending

  from_kept : AllPairs IsBefore (kept ∷ back)
  from_kept = pairs_suffix parts.0 (kept ∷ back) ordered

  back_listed : (other : Kept) → Contains back other → Contains (first ∷ later) other
  back_listed other has = subst (λ (g : List Kept). Contains g other) (sym parts.2)
      (contains_back parts.0 (kept ∷ back) other (contains_tail kept back other has))

  -- Later groups of the row are next to the first, or it themselves.
  near_first : (other : Kept) → Contains (first ∷ later) other → (other ≡ first) ⊎ IsNextOf first other
  near_first other has = ⊎_elim (λ same. inl same)
      (λ listed. inr (subst (λ (k : Kept). IsNextOf first k) listed.2 (knows.row.further listed.0 other listed.1)))
      (contains_cases first later other has)

  -- Those behind the chosen one are next to it.
  next_of : (other : Kept) → Contains back other → IsNextOf kept other
  next_of other has =
      let above = pairs_head kept back other from_kept has in
      ⊎_elim
      (λ same_first. ⊎_elim
      (λ same. let number : other.uber.group ≡ kept.uber.group = ap (λ (k : Kept). k.uber.group) (same ∙ sym same_first) in
      absurd (omega (arith, above, number)))
      (λ next. subst (λ (k : Kept). IsNextOf k other) (sym same_first) next)
      (near_first other (back_listed other has)))
      (λ kept_next. ⊎_elim
      (λ same. let number : other.uber.group ≡ first.uber.group = ap (λ (k : Kept). k.uber.group) same in
      absurd (below_first kept_next other above number))
      (λ next. between kept_next next above)
      (near_first other (back_listed other has)))
      is.near
    where
      below_first : IsNextOf first kept → (other : Kept) → kept.uber.group < other.uber.group
          → other.uber.group ≡ first.uber.group
          → ⊥
      below_first next other above number = ⊎_elim
          (λ one. let is_one = one.0 in omega (arith, is_one, above, number))
          (λ renews. let is_two : kept.uber.group ≡ first.uber.group + 2 = ap (λ (u : Uber). u.group) renews.alike in
          omega (arith, is_two, above, number)) next

      near_back : {other : Kept} → other.uber.reflow.to ≡ first.uber.reflow.to → AreNearWidths first kept
          → AreNearWidths kept other
      near_back to near = record {
        up = (let down = near.down in omega (arith, to, down));
        down = (let up = near.up in omega (arith, to, up));
      }

      between : IsNextOf first kept → IsNextOf first other → kept.uber.group < other.uber.group
          → IsNextOf kept other
      between (inl one) (inl two) above =
          absurd (let one_is = one.0 in let two_is = two.0 in omega (arith, one_is, two_is, above))
      between (inl one) (inr renews) above =
          let number : other.uber.group ≡ first.uber.group + 2 = ap (λ (u : Uber). u.group) renews.alike in
          let area : other.uber.area ≡ first.uber.area = ap (λ (u : Uber). u.area) renews.alike in
          let to : other.uber.reflow.to ≡ first.uber.reflow.to = ap (λ (u : Uber). u.reflow.to) renews.alike in
          inl (
            (let one_is = one.0 in omega (arith, one_is, number)),
            (λ same. one.1 (sym same ∙ area)),
            near_back to one.2,
          )
      between (inr renews) (inl two) above =
          let number : kept.uber.group ≡ first.uber.group + 2 = ap (λ (u : Uber). u.group) renews.alike in
          absurd (let two_is = two.0 in omega (arith, number, two_is, above))
      between (inr renews) (inr others) above =
          let number : kept.uber.group ≡ first.uber.group + 2 = ap (λ (u : Uber). u.group) renews.alike in
          let other_number : other.uber.group ≡ first.uber.group + 2 = ap (λ (u : Uber). u.group) others.alike in
          absurd (omega (arith, number, other_number, above))

  kept_width : HasWidthIn setting kept
  kept_width = listed_width setting (first ∷ later) kept knows.row.widths is.listed

  fresh_width : HasWidthIn setting fresh
  fresh_width = width_like setting kept fresh (ap (λ (u : Uber). u.reflow.to) is.same.alike) kept_width

  -- Those from the chosen group on have a width that the pool may have.
  back_widths : All (HasWidthIn setting) (kept ∷ back)
  back_widths = widths_behind setting parts.0 (kept ∷ back) (subst (All (HasWidthIn setting)) parts.2 knows.row.widths)

  -- Such a row begins with the chosen group.
  row_from : (more : List Kept) → AllPairs IsBefore (kept ∷ more) → All (HasWidthIn setting) (kept ∷ more)
      → ((other : Kept) → Contains more other → IsNextOf kept other)
      → IsSuccession setting kept more
  row_from more pairs widths next = record {
    few = (let few = knows.row.few in let parity = is.parity_is in omega (arith, few, parity));
    wide = (let wide = knows.row.wide in let parity = is.parity_is in omega (arith, wide, parity));
    ascending = pairs;
    further = λ k default low. next (slice_index_or more k default)
        (k, low, get_or_default more k (slice_index_or more k default) default low);
    widths = widths;
    inside = knows.row.inside;
    device = knows.row.device;
    below = knows.row.below;
    works = knows.row.works;
  }

  in_use_left : (device : ℕ) → device < kept.uber.reflow.to → has_device setting.failed device ≡ false
      → IsInUse uber point device
  in_use_left device below works = (
    (let to : kept.uber.reflow.to ≡ uber.reflow.to = ap (λ (u : Uber). u.reflow.to) is.same.alike in
        omega (arith, below, to)),
    by (has_device point.out device) refl,
  )
    where
      by : (b : Bool) → has_device point.out device ≡ b → has_device point.out device ≡ false
      by false used = used
      by true gone = absurd (true_false (sym (is.within device gone) ∙ works))

  -- From now on the chosen group is the first that is certain.
  pub knows_kept : Knows setting kept back point.disk
  knows_kept = knows_move setting first later kept back point.disk (row_from back from_kept back_widths next_of) is.sound
      (lowest is.near)
      (λ device below works. (is.brought device (in_use_left device below works)).sealed)
      (λ other has high. behind_kept parts.0 kept back other ordered
      (subst (λ (g : List Kept). Contains g other) parts.2 has) high)
      knows
    where
      lowest : (kept ≡ first) ⊎ IsNextOf first kept → first.uber.group ≤ kept.uber.group
      lowest (inl same) = let number : kept.uber.group ≡ first.uber.group = ap (λ (k : Kept). k.uber.group) same in
          omega (arith, number)
      lowest (inr (inl one)) = let number = one.0 in omega (arith, number)
      lowest (inr (inr renews)) =
          let number : kept.uber.group ≡ first.uber.group + 2 = ap (λ (u : Uber). u.group) renews.alike in
          omega (arith, number)

  -- The group that is written: it renews the chosen one, joins the row or is in it already, and is its last.
  pub record Joins (next : Kept) (joined front : List Kept) : Type 0 where
    pub renews : Renews kept next
    pub row : IsSuccession setting kept (back ++ joined)
    pub last : kept ∷ (back ++ joined) ≡ front ++ next ∷ []

  -- It joins the row where no group of its number is in it,
  pub joins_fresh : ((other : Kept) → Contains back other → other.uber.group ≢ uber.group + 2)
      → Joins fresh (fresh ∷ []) (kept ∷ back)
  joins_fresh none = record {
    renews = fresh_renews;
    row = row_from (back ++ fresh ∷ []) (pairs_more (kept ∷ back) fresh from_kept above)
        (All-append (HasWidthIn setting) (kept ∷ back) (fresh ∷ []) back_widths (only_width setting fresh fresh_width)) next;
    last = refl;
  }
    where
      below : (other : Kept) → Contains back other → IsNextOf kept other → other.uber.group < fresh.uber.group
      below other has (inl one) = let number = one.0 in omega (arith, number, group_is)
      below other has (inr renews) =
          let number : other.uber.group ≡ kept.uber.group + 2 = ap (λ (u : Uber). u.group) renews.alike in
          absurd (none other has (omega (arith, number, group_is)))

      above : (other : Kept) → Contains (kept ∷ back) other → other.uber.group < fresh.uber.group
      above other has = ⊎_elim
          (λ same. let number : other.uber.group ≡ kept.uber.group = ap (λ (k : Kept). k.uber.group) same in
          omega (arith, number, group_is))
          (λ later. below other later (next_of other later)) (contains_cases kept back other has)

      next : (other : Kept) → Contains (back ++ fresh ∷ []) other → IsNextOf kept other
      next other has = ⊎_elim (λ one. next_of other one)
          (λ last. ⊎_elim (λ same. inr (subst (λ (k : Kept). Renews kept k) (sym same) fresh_renews))
          (λ nothing. absurd (contains_none other nothing)) (contains_cases fresh [] other last))
          (contains_either back (fresh ∷ []) other has)

  -- and is the one that is there already where one is.
  pub joins_listed : (next : Kept) → Contains back next → next.uber.group ≡ uber.group + 2
      → (front : List Kept) × Joins next [] front
  joins_listed next has number = (
    kept ∷ (split_at back next has).0,
    record {
      renews = renewing (next_of next has);
      row = subst (λ (g : List Kept). IsSuccession setting kept g) (sym (append-nil back)) (row_from back from_kept back_widths next_of);
      last = ap (λ (g : List Kept). kept ∷ g) (append-nil back ∙ (split_at back next has).2
          ∙ ap (λ (g : List Kept). (split_at back next has).0 ++ next ∷ g) (none_behind (split_at back next has).1 refl));
    },
  )
    where
      renewing : IsNextOf kept next → Renews kept next
      renewing (inl one) = absurd (let is_one = one.0 in omega (arith, is_one, number, group_is))
      renewing (inr renews) = renews

      no_later : (other : Kept) → IsNextOf kept other → next.uber.group < other.uber.group → ⊥
      no_later other (inl one) above = let is_one = one.0 in omega (arith, is_one, above, number, group_is)
      no_later other (inr renews) above =
          let is_two : other.uber.group ≡ kept.uber.group + 2 = ap (λ (u : Uber). u.group) renews.alike in
          omega (arith, is_two, above, number, group_is)

      none_behind : (rest : List Kept) → rest ≡ (split_at back next has).1 → (split_at back next has).1 ≡ []
      none_behind [] same = sym same
      none_behind (other ∷ rest) same =
          let split : back ≡ (split_at back next has).0 ++ next ∷ (other ∷ rest) =
          (split_at back next has).2 ∙ ap (λ (g : List Kept). (split_at back next has).0 ++ next ∷ g) (sym same) in
          let pairs = pairs_suffix (split_at back next has).0 (next ∷ (other ∷ rest))
          (subst (AllPairs IsBefore) split (pairs_tail kept back from_kept)) in
          absurd (no_later other
          (next_of other (subst (λ (g : List Kept). Contains g other) (sym split)
          (contains_back (split_at back next has).0 (next ∷ (other ∷ rest)) other
          (contains_tail next (other ∷ rest) other (contains_head other rest)))))
          (pairs_head next (other ∷ rest) other pairs (contains_head other rest)))

  module _ (next : Kept) (joined front : List Kept) (joins : Joins next joined front) where
    abbrev pub rest : List Kept
    rest = back ++ joined

    knows_rest : Knows setting kept rest point.disk
    knows_rest = knows_widen setting kept back rest point.disk joins.row
        (λ other has. contains_front (kept ∷ back) joined other has) knows_kept

    pub next_listed : Contains (kept ∷ rest) next
    next_listed = subst (λ (g : List Kept). Contains g next) (sym joins.last)
        (contains_back front (next ∷ []) next (contains_head next []))

    pub next_same : SameGroup next fresh
    next_same = record {
      entries = joins.renews.entries ∙ is.same.entries;
      map = joins.renews.map;
      alike = joins.renews.alike ∙ ap (λ (u : Uber). record u { group = u.group + 2 }) is.same.alike;
      others = joins.renews.others;
      excepted = joins.renews.excepted;
    }

    next_indexes : IsIndexOf next.entries next.map
    next_indexes = record {
      listed = λ entry listed.
          let there = is.sound.indexes.listed entry
          (subst (λ (es : List IndexEntry). Contains es entry) joins.renews.entries listed) in
          (there.0, joins.renews.map entry.id ∙ there.1, there.2);
      every = λ id bytes held.
          let there = is.sound.indexes.every id bytes (sym (joins.renews.map id) ∙ held) in
          (there.0, subst (λ (es : List IndexEntry). Contains es there.0) (sym joins.renews.entries) there.1, there.2);
    }

    out_before : (device : ℕ) → has_device point.out device ≡ false → has_device uber.out device ≡ false
    out_before device used = by (has_device uber.out device) refl
      where
        by : (b : Bool) → has_device uber.out device ≡ b → has_device uber.out device ≡ false
        by false none = none
        by true listed = absurd (true_false (sym (is.lists device listed) ∙ used))

    next_certain : IsCertain setting point.disk (kept ∷ rest) renewed
    next_certain =
        let known = is.stays.known in
        let same : known.kept ≡ kept = same_group (first ∷ later) known.kept kept knows.row.ascending known.listed
        is.listed (sym (ap (λ (u : Uber). u.group) known.alike) ∙ sym group_is) in
        record {
          kept = next;
          listed = next_listed;
          alike = sym next_same.alike;
          listing = record {
            index = subst IsIndex (sym joins.renews.entries) is.sound.index;
            counted = ap length joins.renews.entries ∙ is.sound.counted
                ∙ ap (λ (u : Uber). u.count) is.same.alike;
            none_else = joins.renews.others ∙ is.sound.none_else;
          };
          indexes = next_indexes;
          cells = λ device inside used. cells_renewed kept next (certain point.disk) device joins.renews
              (subst (λ (k : Kept). CellsOn (certain point.disk) k device) same
              (known.cells device inside (out_before device used)));
          out = is.within;
        }

    -- Its uberblock may be written to each device.
    pub may_renew : (all : ℕ) → ((device : ℕ) → device < 16 → has_device all device ≡ true)
        → MaySpread (record { setting = setting; first = kept; later = rest; kept = next; map = kept.map })
        renewed entries 0 all point
    may_renew all each = record {
      knows = knows_rest;
      listed = next_listed;
      same = record {
        entries = next_same.entries;
        others = refl;
        map = next_same.map;
        alike = next_same.alike;
        excepted = refl;
      };
      pool_is = sym (ap (λ (u : Uber). u.pool) is.same.alike) ∙ is.sound.pool_is;
      known = next_certain;
      told = is.stays.told;
      pages = λ device part in_use has low. (is.brought device in_use).page part low;
      slots = λ device in_use has. absurd (true_false
          (sym (each device (let wide = is.right.widths.1 in let below = in_use.0 in omega (arith, wide, below))) ∙ has));
      page_spared = λ device in_use lacks. absurd (true_false (sym lacks ∙ none_in device));
      slot_spared = λ device in_use lacks. inl (λ same. omega (arith, same, group_is));
    }

    next_to : next.uber.reflow.to ≡ kept.uber.reflow.to
    next_to = ap (λ (u : Uber). u.reflow.to) joins.renews.alike

    sound_fitting : IsFitting (record kept.uber { group = kept.uber.group + 2 }) kept.entries
    sound_fitting =
        let fitting = fits_alone kept is.sound.none_else is.sound.fitting in record {
          births = λ k default low. let birth = fitting.births k default low in omega (arith, birth);
          below = fitting.below;
          apart = fitting.apart;
        }

    pub next_sound : IsSound setting next
    next_sound = record {
      uber = renewed;
      alike = sym next_same.alike;
      right = renewed_right;
      pool_is = ap (λ (u : Uber). u.pool) joins.renews.alike ∙ is.sound.pool_is;
      room = (let rows : next.uber.reflow.rows ≡ kept.uber.reflow.rows = ap (λ (u : Uber). u.reflow.rows) joins.renews.alike in
          let room = is.sound.room in omega (arith, room, rows));
      index = subst IsIndex (sym joins.renews.entries) is.sound.index;
      counted = ap length joins.renews.entries ∙ is.sound.counted
          ∙ sym (ap (λ (u : Uber). u.count) joins.renews.alike);
      digest = ap (λ (es : List IndexEntry). sha256 (index_page es)) joins.renews.entries ∙ is.sound.digest
          ∙ sym (ap (λ (u : Uber). u.digest) joins.renews.alike);
      none_else = joins.renews.others ∙ is.sound.none_else;
      fitting = alone_fits next (joins.renews.others ∙ is.sound.none_else)
          (subst (λ (es : List IndexEntry). IsFitting next.uber es) (sym joins.renews.entries)
          (fitting_alike next.uber (record kept.uber { group = kept.uber.group + 2 }) kept.entries joins.renews.alike
          sound_fitting));
      indexes = next_indexes;
    }

    -- Once each device in use has it for certain, it is the group that is kept.
    pub knows_next : (after : Point) → IsWithin after.out setting.failed → Knows setting kept rest after.disk
        → ((device : ℕ) → IsInUse renewed after device
        → IsSpreadTo (record { setting = setting; first = kept; later = rest; kept = next; map = kept.map })
        renewed entries after device)
        → Knows setting next [] after.disk
    knows_next after within now brought = knows_move setting kept rest next [] after.disk
        (record {
          few = (let few = joins.row.few in
              let parity : next.uber.parity ≡ kept.uber.parity = ap (λ (u : Uber). u.parity) joins.renews.alike in
              omega (arith, few, parity));
          wide = (let wide = joins.row.wide in
              let parity : next.uber.parity ≡ kept.uber.parity = ap (λ (u : Uber). u.parity) joins.renews.alike in
              omega (arith, wide, parity));
          ascending = λ one two default less low. absurd (omega (arith, less, low));
          further = λ k default low. absurd (omega (arith, low));
          widths = only_width setting next (width_like setting kept next (sym next_to) kept_width);
          inside = joins.row.inside;
          device = joins.row.device;
          below = joins.row.below;
          works = joins.row.works;
        })
        next_sound
        (let number : next.uber.group ≡ kept.uber.group + 2 = ap (λ (u : Uber). u.group) joins.renews.alike in
        omega (arith, number))
        (λ device below works. (brought device (used device below works)).sealed)
        (λ other has high. subst (λ (k : Kept). Contains (next ∷ []) k)
        (sym (last_alone front next other (subst (AllPairs IsBefore) joins.last joins.row.ascending)
        (subst (λ (g : List Kept). Contains g other) joins.last has) high))
        (contains_head next []))
        now
      where
        used : (device : ℕ) → device < next.uber.reflow.to → has_device setting.failed device ≡ false
            → IsInUse renewed after device
        used device below works = (
          (let to : kept.uber.reflow.to ≡ uber.reflow.to = ap (λ (u : Uber). u.reflow.to) is.same.alike in
              omega (arith, below, to, next_to)),
          by (has_device after.out device) refl,
        )
          where
            by : (b : Bool) → has_device after.out device ≡ b → has_device after.out device ≡ false
            by false none = none
            by true gone = absurd (true_false (sym (within device gone) ∙ works))

    -- where the row stands in all groups
    pub row_of_rest : IsRowOf ((first ∷ later) ++ joined) kept rest
    row_of_rest = record {
      before = parts.0;
      after = [];
      row = ap (λ (g : List Kept). g ++ joined) parts.2 ∙ append_assoc parts.0 (kept ∷ back) joined
          ∙ sym (append-nil (parts.0 ++ (kept ∷ rest)));
    }

    pub row_of_next : IsRowOf ((first ∷ later) ++ joined) next []
    row_of_next = record {
      before = parts.0 ++ front;
      after = [];
      row = ap (λ (g : List Kept). g ++ joined) parts.2 ∙ append_assoc parts.0 (kept ∷ back) joined
          ∙ ap (λ (g : List Kept). parts.0 ++ g) joins.last
          ∙ sym (append_assoc parts.0 front (next ∷ []))
          ∙ sym (append-nil (parts.0 ++ front ++ next ∷ []));
    }
