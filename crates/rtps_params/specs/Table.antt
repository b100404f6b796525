-- The table of parameters: what each value tells, or None where the value is bad. Octets past the
-- named ones are not looked at.
use Rattle.std.specs.Prelude.{ℕ, ◌+◌, ◌*◌, ◌%◌, ◌^◌, ◌-◌, Bool, ◌==◌, ◌&&◌, List, length, take, drop, slice_index, Option, Some, None, option_map, nat_lt, nat_le, bit_and, if◌then◌else◌}
use Rattle.std.specs.Int.{w32}
use Rattle.dur_base.specs.declared.sample.SetMark.TheVariants.{End, Of}
use Rattle.rtps_params.specs.declared.parameter.Parameter.{Parameter}
use Rattle.rtps_params.specs.declared.parameter.Parameter.TheVariants.{Hash, Status, Lifespan, Set, Original, Strange, Passed}
use Rattle.dur_base.specs.Fields.{number, sequence}

-- a number of a sample is from 1 to 2 ^ 63 - 2
unfoldable pub sample_number_of : ℕ → Option ℕ
sample_number_of n = if nat_le 1 n && nat_le n (2 ^ 63 - 2) then Some n else None

-- 002b PID_LIFESPAN: i32 seconds, u32 fraction. Bad: shorter than 8, seconds below 0. Seconds of
-- 7fffffff are infinite.
unfoldable pub lifespan_at : Bool → List ℕ → Option Parameter
lifespan_at little value =
    let seconds = number little w32 (take 4 value) in
    let fraction = number little w32 (take 4 (drop 4 value)) in
    if nat_lt (length value) 8 then None
    else if nat_le (2 ^ 31) seconds then None
    else if seconds == 0x7fffffff then Some (Lifespan None)
    else Some (Lifespan (Some (seconds * 2 ^ 32 + fraction)))

-- 0056 PID_COHERENT_SET: number. Bad: shorter than 8; neither from 1 to 2 ^ 63 - 2 nor
-- SEQUENCENUMBER_UNKNOWN, which is high -1, low 0.
unfoldable pub set_at : Bool → List ℕ → Option Parameter
set_at little value =
    if nat_lt (length value) 8 then None
    else if sequence little value == 0xffffffff00000000 then Some (Set End)
    else option_map (λ n. Set (Of n)) (sample_number_of (sequence little value))

-- 0061 PID_ORIGINAL_WRITER_INFO: GUID 16, number 8, parameter list. Bad: shorter than 24; number not
-- from 1 to 2 ^ 63 - 2.
unfoldable pub original_at : Bool → List ℕ → Option Parameter
original_at little value =
    if nat_lt (length value) 24 then None
    else option_map (λ n. Original (take 16 value) n) (sample_number_of (sequence little (drop 16 value)))

-- 0070 PID_KEY_HASH: 16 octets. Bad: shorter than 16.
unfoldable pub hash_at : List ℕ → Option Parameter
hash_at value = if nat_lt (length value) 16 then None else Some (Hash (take 16 value))

-- 0071 PID_STATUS_INFO: 4 octets; in the last one 01 disposed, 02 unregistered. Bad: shorter than 4.
unfoldable pub status_at : List ℕ → Option Parameter
status_at value = if nat_lt (length value) 4 then None else Some (Status (slice_index value 3 % 4))

-- what a parameter of that id tells; bit 4000 of any other id marks what must be understood
unfoldable pub parameter_at : Bool → ℕ → List ℕ → Option Parameter
parameter_at little id value =
    if id == 0x002b then lifespan_at little value
    else if id == 0x0056 then set_at little value
    else if id == 0x0061 then original_at little value
    else if id == 0x0070 then hash_at value
    else if id == 0x0071 then status_at value
    else if bit_and id 0x4000 == 0 then Some Passed
    else Some (Strange id)
