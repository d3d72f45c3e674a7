-- The fields of a header that is to be written.
use Rattle.v4_message.specs.declared.header.Header.{Header}
use Rattle.v4_message.specs.Header.{HeaderValue}

abbrev pub header_value : Header → HeaderValue
header_value h = record {
  op = h.op;
  hops = h.hops;
  xid = h.xid;
  secs = h.secs;
  flags = h.flags;
  ciaddr = h.ciaddr.0;
  yiaddr = h.yiaddr.0;
  siaddr = h.siaddr.0;
  giaddr = h.giaddr.0;
  chaddr = h.chaddr.now;
  sname = h.sname.now;
  file = h.file.now;
}
