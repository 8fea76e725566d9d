-- The script that goes with the capture.
use Rattle.std.specs.Prelude.{ℕ, List, ◌++◌, codes}

unfoldable pub script_text : List ℕ
script_text =
    codes "add load sumax_sum 3 key=src_ip attr=bytes filter=all memory=128\n"
    ++ codes "add flows cms 3 key=src_ip,dst_ip,src_port,dst_port,proto "
    ++ codes "attr=packets filter=proto:6 memory=256\n"
    ++ codes "add dests hll 1 key=dst_ip attr=flow filter=all memory=64\n"
    ++ codes "add sizes mrac 1 key=src_ip attr=packets filter=all memory=32\n"
    ++ codes "run\n"
    ++ codes "query load src_ip:10.0.0.20\n"
    ++ codes "card dests\n"
    ++ codes "dist sizes\n"
    ++ codes "resize sizes memory=64\n"
    ++ codes "remove flows\n"
    ++ codes "stat\n"
